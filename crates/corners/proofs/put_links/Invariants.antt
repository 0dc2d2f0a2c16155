-- `corners::put_links` meets its contract. The invariant: the links of i polygons are stored, and all else is as it was.
use Rattle.std.proofs.Common.{◌≡◌}
use Rattle.base.specs.Lists.{over}
use Rattle.corners.specs.Corners.{linked_records}
use Rattle.corners.proofs.put_links.Given as goal

abbrev pub invariant-loop-i : goal.invariant-loop-i
invariant-loop-i l = l.polygons ≡ over (linked_records l.i l.links l.initial.polygons) l.initial.polygons
