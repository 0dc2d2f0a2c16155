-- `groups::partition` meets its contract. The loop's invariant: what is stored so far, followed by what the rest gives, is the whole of each group.
use Rattle.split.specs.Steps.Groups.{passes}
use Rattle.split.proofs.Parting.{Parting}
use Rattle.split.proofs.groups.partition.Given as goal

abbrev pub invariant-loop-i : goal.invariant-loop-i
invariant-loop-i l = Parting (passes l.entries l.step l.cut) l.initial.places l.initial.temp l.places l.temp l.k l.i
