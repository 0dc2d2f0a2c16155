-- `fold::fold_words` meets its contract. The loop's invariant: the rest folded onto the box so far is the whole fold.
use native.Mathlib.Omega.{arith}
use Rattle.entries.specs.Boxes.{box_at}
use Rattle.entries.specs.Folding.{start_box, fold_from, fold_box}
use Rattle.entries.proofs.Places.{finished}
use Rattle.entries.proofs.fold.fold_words.Goals as goal

pub returns : goal.returns
unfolding fold_box
returns c =
    let l = c.loop-p in
    finished (fold_from (box_at c.args.entries.now)) _ c.args.places.now start_box l.acc l.p-index l.invariant (omega arith)
