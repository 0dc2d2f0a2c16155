-- `ordinary::fold_present` meets its contract. The loop's invariant, `Folded`: the rest folded onto the box so far is the whole fold.
use Rattle.tree.proofs.premises.Passing.{Folded}
use Rattle.tree.proofs.premises.ordinary.fold_present.Given as goal

abbrev pub invariant-loop-p : goal.invariant-loop-p
invariant-loop-p l = Folded l.entries l.n l.p l.acc
