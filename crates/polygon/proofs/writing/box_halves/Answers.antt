-- `writing::box_halves` meets its contract: field by field what `half_of` ensures.
use Rattle.base.proofs.ShortLaws.{same_short}
use Rattle.polygon.specs.Polygons.{box_halves}
use Rattle.polygon.proofs.writing.box_halves.Goals as goal

pub returns : goal.returns
unfolding box_halves
returns c =
    let r1 = same_short c.args.i1 c.ranges.i1.sfits in
    let r2 = same_short c.args.i2 c.ranges.i2.sfits in
    let r3 = same_short c.args.i3 c.ranges.i3.sfits in
    let r4 = same_short c.args.i4 c.ranges.i4.sfits in
    cc
