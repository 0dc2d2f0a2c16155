-- `corners::unpack_corners` meets its contract. The invariant: the corners of i polygons are stored, and the rest is as it was.
use Rattle.std.proofs.Common.{◌≡◌}
use Rattle.base.specs.Lists.{over}
use Rattle.corners.specs.Corners.{corners_of}
use Rattle.corners.proofs.unpack_corners.Given as goal

abbrev pub invariant-loop-i : goal.invariant-loop-i
invariant-loop-i l = l.corners ≡ over (corners_of l.i l.polygons) l.initial.corners
