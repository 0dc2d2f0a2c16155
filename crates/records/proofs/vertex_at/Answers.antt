-- `vertex_at` meets its contract: axis by axis what `short_at` ensures.
use mathlib.Core.Path.{◌∙◌}
use Rattle.base.proofs.ShortLaws.{same_short}
use Rattle.records.proofs.vertex_at.Goals as goal

pub returns : goal.returns
returns c =
    let x = c.short_at-x in
    let y = c.short_at-y in
    let z = c.short_at-z in
    λ i. record {
      0 = (same_short x.result x.type_inv ∙ x.ensures) i;
      1 = (same_short y.result y.type_inv ∙ y.ensures) i;
      2 = (same_short z.result z.type_inv ∙ z.ensures) i;
    }
