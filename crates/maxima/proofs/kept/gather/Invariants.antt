-- `gather` meets its contract. The invariant is `Gathering`: what is kept of the vertices passed stands at the start.
use Rattle.maxima.proofs.Keeping.{Gathering}
use Rattle.maxima.proofs.kept.gather.Given as goal

abbrev pub invariant-loop-i : goal.invariant-loop-i
invariant-loop-i l = Gathering l.n l.rows l.initial.kept l.kept l.s.count l.i
