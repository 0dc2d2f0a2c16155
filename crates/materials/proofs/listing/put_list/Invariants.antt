-- `put_list`, by the invariant `Putting`.
use Rattle.materials.proofs.listing.Putting.{Putting}
use Rattle.materials.proofs.listing.put_list.Given as goal

abbrev pub invariant-loop-i : goal.invariant-loop-i
invariant-loop-i l = Putting l.list l.initial.out l.out l.i
