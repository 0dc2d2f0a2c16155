-- `relinked_triangle` meets its contract: field by field what the calls ensure.
use mathlib.Core.Path.{ap, ◌∙◌}
use Rattle.base.proofs.ShortLaws.{same_short}
use Rattle.polygon.specs.declared.Polygon.TheVariants.{Triangle}
use Rattle.reorder.specs.Reordering.{new_link}
use Rattle.reorder.proofs.renumbering.relinked_triangle.Goals as goal

pub returns : goal.returns
returns c =
    let a = c.args in
    let link = new_link a.lookup.now in
    let c1 = c.new_link in
    let c2 = c.new_link-2 in
    let c3 = c.new_link-3 in
    let r1 = same_short c1.result c1.type_inv ∙ c1.ensures ∙ ap link (same_short a.e1 c.ranges.e1.sfits) in
    let r2 = same_short c2.result c2.type_inv ∙ c2.ensures ∙ ap link (same_short a.e2 c.ranges.e2.sfits) in
    let r3 = same_short c3.result c3.type_inv ∙ c3.ensures ∙ ap link (same_short a.e3 c.ranges.e3.sfits) in
    λ i. Triangle a.area a.nan a.v1 a.v2 a.v3 (r1 i) (r2 i) (r3 i)
