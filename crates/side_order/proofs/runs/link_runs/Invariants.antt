-- `link_runs` links each side, by the invariant `Running`.
use Rattle.sides.specs.Steps.Grouped.{key_in}
use Rattle.side_order.specs.Steps.Runs.{past_run, first_of}
use Rattle.side_order.proofs.runs.Running.{Running}
use Rattle.side_order.proofs.runs.link_runs.Given as goal

abbrev pub invariant-loop-i : goal.invariant-loop-i
invariant-loop-i l = Running (key_in l.keys) l.sides l.initial.links l.links (first_of l.run) (past_run l.run) l.i
