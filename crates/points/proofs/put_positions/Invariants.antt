-- `put_positions` meets its contract. The loop's invariant: the positions of the vertices before i are written, and nothing else.
use Rattle.std.proofs.Common.{◌≡◌}
use Rattle.base.specs.Lists.{over}
use Rattle.points.specs.Points.{positions_of}
use Rattle.points.proofs.put_positions.Given as goal

abbrev pub invariant-loop-i : goal.invariant-loop-i
invariant-loop-i l = l.points ≡ over (positions_of l.transform l.center l.vertices l.i) l.initial.points
