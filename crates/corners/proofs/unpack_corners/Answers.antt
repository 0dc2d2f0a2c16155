-- `corners::unpack_corners` meets its contract. The invariant: the corners of i polygons are stored, and the rest is as it was.
use Rattle.std.proofs.Common.{arith}
use Rattle.corners.proofs.CornerLaws.{corners_next}
use Rattle.corners.proofs.unpack_corners.Goals as goal

pub loop-i-preserved : goal.loop-i-preserved
loop-i-preserved c =
    let a = c.args in
    corners_next a.polygons.now a.corners.now c.loop-i.i (omega arith) c.loop-i.invariant c.unpack_one.ensures
