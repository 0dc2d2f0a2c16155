-- `fold::fold_words` meets its contract. The loop's invariant: the rest folded onto the box so far is the whole fold.
use lib.ListN.{length}
use Rattle.entries.specs.Boxes.{box_at}
use Rattle.entries.specs.Folding.{start_box, fold_from}
use Rattle.entries.proofs.Places.{Pass}
use Rattle.entries.proofs.fold.fold_words.Given as goal

abbrev pub invariant-loop-p : goal.invariant-loop-p
invariant-loop-p l = Pass (fold_from (box_at l.entries)) (length l.entries) l.places start_box l.acc l.p-index
