-- `reorder_bytes` meets its contract: the numbers of the first i positions are written, and the rest is as it was.
use Rattle.std.proofs.Common.{◌≡◌, take}
use Rattle.base.specs.Lists.{over}
use Rattle.reorder.specs.Reordering.{in_order}
use Rattle.reorder.proofs.renumbering.reorder_bytes.Given as goal

abbrev pub invariant-loop-i : goal.invariant-loop-i
invariant-loop-i l = l.out ≡ over (in_order (take l.i l.order) l.numbers) l.initial.out
