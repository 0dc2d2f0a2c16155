-- `count_up` meets its contract. The invariant is `Counting`: what is passed is the numbers from 0 on.
use Rattle.maxima.proofs.ListingLaws.{Counting}
use Rattle.maxima.proofs.listing.count_up.Given as goal

abbrev pub invariant-loop-i : goal.invariant-loop-i
invariant-loop-i l = Counting l.initial.order l.order l.i
