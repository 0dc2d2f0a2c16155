-- `put_stored` meets its contract. The loop's invariant: the vertices before i are stored and read back, and nothing else is changed.
use Rattle.finishing.specs.Steps.Finishing.{Stored}
use Rattle.finishing.proofs.storing.put_stored.Given as goal

abbrev pub invariant-loop-i : goal.invariant-loop-i
invariant-loop-i l = Stored l.quantum l.words l.i l.initial.stored l.stored l.initial.floats l.floats
