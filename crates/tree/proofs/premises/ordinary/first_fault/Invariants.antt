-- `ordinary::first_fault` meets its contract. The loop's invariant, `Clean`: the entries before p break nothing.
use Rattle.tree.proofs.premises.Passing.{Clean}
use Rattle.tree.proofs.premises.ordinary.first_fault.Given as goal

abbrev pub invariant-loop-p : goal.invariant-loop-p
invariant-loop-p l = Clean l.entries l.n l.p
