-- `average::put_centres` meets its contract. The loop's invariant: the centres of the entries that are passed are stored.
use Rattle.entries.proofs.CentreLaws.{Storing}
use Rattle.entries.proofs.average.put_centres.Given as goal

abbrev pub invariant-loop-i : goal.invariant-loop-i
invariant-loop-i l = Storing l.entries l.initial.centres l.centres l.i
