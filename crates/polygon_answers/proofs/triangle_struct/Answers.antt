-- `triangle_struct` meets its contract: field by field what the calls ensure.
use Rattle.base.proofs.ShortLaws.{same_short}
use Rattle.polygon_answers.specs.Geometry.{triangle_struct}
use Rattle.polygon_answers.proofs.triangle_struct.Goals as goal

pub returns : goal.returns
unfolding triangle_struct
returns c =
    let r1 = same_short c.args.e1 c.ranges.e1.sfits in
    let r2 = same_short c.args.e2 c.ranges.e2.sfits in
    let r3 = same_short c.args.e3 c.ranges.e3.sfits in
    cc
