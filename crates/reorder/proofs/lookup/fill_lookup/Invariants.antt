-- `fill_lookup` meets its contract: the positions of the first i places of the order are stored (LookupLaws, `Filling`).
use Rattle.reorder.proofs.LookupLaws.{Filling}
use Rattle.reorder.proofs.lookup.fill_lookup.Given as goal

abbrev pub invariant-loop-i : goal.invariant-loop-i
invariant-loop-i l = Filling l.order l.n l.i l.initial.lookup l.lookup
