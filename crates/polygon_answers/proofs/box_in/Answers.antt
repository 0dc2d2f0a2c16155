-- `box_in` meets its contract: field by field what `short_of` ensures.
use Rattle.base.proofs.ShortLaws.{same_short}
use Rattle.polygon_answers.specs.Geometry.{box_in}
use Rattle.polygon_answers.proofs.box_in.Goals as goal

pub returns : goal.returns
unfolding box_in
returns c =
    let r1 = same_short c.short_of.result c.short_of.type_inv in
    let r2 = same_short c.short_of-2.result c.short_of-2.type_inv in
    let r3 = same_short c.short_of-3.result c.short_of-3.type_inv in
    let r4 = same_short c.short_of-4.result c.short_of-4.type_inv in
    cc
