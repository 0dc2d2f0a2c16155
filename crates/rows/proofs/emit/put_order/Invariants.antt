-- `emit::put_order` meets its contract. The loop's invariant: the first i places are written.
use lib.ListN.{length, take}
use Rattle.rows.proofs.emit.Writing.{Writing}
use Rattle.rows.proofs.emit.put_order.Given as goal

abbrev pub invariant-loop-i : goal.invariant-loop-i
invariant-loop-i l = Writing l.initial.order l.order (take l.i l.places) l.i (length l.places)
