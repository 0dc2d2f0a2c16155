-- `tree_at` meets its contract: field by field what the calls ensure.
use mathlib.Core.Path.{◌∙◌}
use Rattle.base.proofs.ShortLaws.{same_short}
use Rattle.records.proofs.tree_at.Goals as goal

pub returns : goal.returns
returns c =
    let min = c.vertex_at in
    let max = c.vertex_at-2 in
    let first = c.short_at in
    let second = c.short_at-2 in
    λ i. record {
      min = min.ensures i;
      max = max.ensures i;
      node_index1 = (same_short first.result first.type_inv ∙ first.ensures) i;
      node_index2 = (same_short second.result second.type_inv ∙ second.ensures) i;
    }
