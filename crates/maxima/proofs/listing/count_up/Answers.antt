-- `count_up` meets its contract. The invariant is `Counting`: what is passed is the numbers from 0 on.
use mathlib.Core.Path.{refl}
use Rattle.maxima.proofs.ListingLaws.{count_more_lem, counted_up}
use native.Mathlib.Omega.{arith}
use Rattle.maxima.proofs.listing.count_up.Goals as goal

pub loop-i-init : goal.loop-i-init
loop-i-init c = record { size = refl; upto = omega arith; so_far = refl }

pub loop-i-preserved : goal.loop-i-preserved
loop-i-preserved c = count_more_lem _ _ _ c.loop-i.invariant (omega (arith, c.loop-i.invariant.size))

pub returns : goal.returns
returns c = counted_up _ _ _ c.loop-i.invariant (omega (arith, c.loop-i.invariant.size))
