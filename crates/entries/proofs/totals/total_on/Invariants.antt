-- `totals::total_on` meets its contract. The loop's invariant: the rest taken into the totals so far gives those of all.
use lib.ListN.{length}
use Rattle.entries.specs.Boxes.{box_at}
use Rattle.entries.specs.Steps.Totals.{totals_from}
use Rattle.entries.proofs.Places.{Pass}
use Rattle.entries.proofs.totals.total_on.Given as goal

abbrev pub invariant-loop-p : goal.invariant-loop-p
invariant-loop-p l = Pass (totals_from (box_at l.entries)) (length l.entries) l.places l.initial.t l.t l.p-index
