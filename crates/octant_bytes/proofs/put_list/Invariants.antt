-- `put_list`, by the invariant `Putting`.
use Rattle.octant_bytes.proofs.Laying.{Putting}
use Rattle.octant_bytes.proofs.put_list.Given as goal

abbrev pub invariant-loop-i : goal.invariant-loop-i
invariant-loop-i l = Putting l.list l.initial.out l.out l.at l.i
