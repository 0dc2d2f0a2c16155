-- `list_unmarked` meets its contract. The invariant is `Listing`: the unmarked of those passed, followed by what the list had.
use lib.Dec.{eqb}
use lib.ListN.{get_or}
use Rattle.maxima.proofs.ListingLaws.{Listing}
use Rattle.maxima.proofs.listing.list_unmarked.Given as goal

abbrev pub invariant-loop-i : goal.invariant-loop-i
invariant-loop-i l = Listing (λ k. eqb (get_or l.marks k 0) 0) l.n l.initial.list l.list l.count l.i
