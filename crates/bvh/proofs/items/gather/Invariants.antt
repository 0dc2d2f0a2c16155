-- `items::gather` meets its contract. The loop's invariant, `Gathering`: the places so far, followed by those still to be marked, are all.
use Rattle.bvh.proofs.items.Gathering.{Gathering}
use Rattle.bvh.proofs.items.gather.Given as goal

abbrev pub invariant-loop-p : goal.invariant-loop-p
invariant-loop-p l = Gathering l.n l.entries l.initial.places l.places l.k l.p
