-- `reorder` meets its contract: the records of the first i positions are written, and the rest is as it was.
use Rattle.std.proofs.Common.{◌≡◌, take}
use Rattle.base.specs.Lists.{over}
use Rattle.reorder.specs.Reordering.{rebuilt_records}
use Rattle.reorder.proofs.renumbering.reorder.Given as goal

abbrev pub invariant-loop-i : goal.invariant-loop-i
invariant-loop-i l = l.out ≡ over (rebuilt_records l.i (take l.n l.order) l.lookup l.polygons) l.initial.out
