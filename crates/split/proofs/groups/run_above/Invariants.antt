-- `groups::run_above` meets its contract: all before i pass.
use Rattle.split.specs.Steps.Groups.{passes, Leading}
use Rattle.split.proofs.groups.run_above.Given as goal

abbrev pub invariant-loop-i : goal.invariant-loop-i
invariant-loop-i l = Leading (passes l.entries l.step l.cut) l.places l.i
