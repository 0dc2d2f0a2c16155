-- `groups::count_below` meets its contract. The loop's invariant: the counts of the rest added to those so far are the whole counts.
use lib.ListN.{length}
use Rattle.entries.specs.Boxes.{box_at}
use Rattle.entries.proofs.Places.{Pass}
use Rattle.split.proofs.Counting.{onto, none}
use Rattle.split.proofs.groups.count_below.Given as goal

abbrev pub invariant-loop-p : goal.invariant-loop-p
invariant-loop-p l = Pass (onto (box_at l.entries) l.avg) (length l.entries) l.places (none (box_at l.entries) l.avg) l.counts l.p-index
