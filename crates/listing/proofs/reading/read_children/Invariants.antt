-- `reading::read_children` meets its contract: the first i records are read.
use Rattle.listing.proofs.Children.{Children}
use Rattle.listing.proofs.reading.read_children.Given as goal

abbrev pub invariant-loop-i : goal.invariant-loop-i
invariant-loop-i l = Children l.bytes l.initial.entries l.entries l.i l.n
