-- `box_struct` meets its contract: field by field what `half_of` ensures.
use Rattle.base.proofs.ShortLaws.{same_short}
use Rattle.polygon_answers.specs.Geometry.{box_struct}
use Rattle.polygon_answers.proofs.box_struct.Goals as goal

pub returns : goal.returns
unfolding box_struct
returns c =
    let r1 = same_short c.args.i1 c.ranges.i1.sfits in
    let r2 = same_short c.args.i2 c.ranges.i2.sfits in
    let r3 = same_short c.args.i3 c.ranges.i3.sfits in
    let r4 = same_short c.args.i4 c.ranges.i4.sfits in
    cc
