-- `writing::triangle_halves` meets its contract: field by field what the calls ensure.
use Rattle.base.proofs.ShortLaws.{same_short}
use Rattle.polygon.specs.Polygons.{triangle_halves}
use Rattle.polygon.proofs.writing.triangle_halves.Goals as goal

pub returns : goal.returns
unfolding triangle_halves
returns c =
    let r1 = same_short c.args.e1 c.ranges.e1.sfits in
    let r2 = same_short c.args.e2 c.ranges.e2.sfits in
    let r3 = same_short c.args.e3 c.ranges.e3.sfits in
    cc
