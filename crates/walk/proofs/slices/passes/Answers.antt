-- `slices::passes` meets its contract: the ways through it are the cases of the definition. The record was read twice, and is the same.
use Rattle.std.specs.Prelude.{not}
use mathlib.Core.Path.{sym, ap, ◌∙◌}
use Rattle.records.specs.declared.BvhTree.{BvhTree}
use Rattle.walk_steps.specs.Refusals.{bad_range}
use Rattle.walk_steps.specs.Steps.Lanes.{plain_of}
use Rattle.walk.specs.Steps.Passing.{passes_over}
use Rattle.walk.proofs.PassLaws.{over_met, over_missed}
use Rattle.walk.proofs.slices.passes.Goals as goal

pub returns-then-meets : goal.returns-then-meets
returns-then-meets c =
    let a = c.args in
    sym (over_met _ _ _ (sym c.meets.ensures ∙ c.if-meets.true)) ∙ ap (passes_over (plain_of a.query) a.nodes) c.tree_at-t.ensures

pub returns : goal.returns
returns c =
    let a = c.args in
    let same = c.tree_apart.ensures ∙ sym c.tree_at-t.ensures in
    ap not c.range_refused.ensures
    ∙ ap (λ (t : BvhTree). not (bad_range a.nodes t)) same
    ∙ sym (over_missed _ _ _ (sym c.meets.ensures ∙ c.if-meets.false))
    ∙ ap (passes_over (plain_of a.query) a.nodes) c.tree_at-t.ensures
