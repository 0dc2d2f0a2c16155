-- `reading::child_box` meets its contract: two corners, the second 16 bytes behind the first.
use Rattle.listing.specs.Reading.{child_box}
use Rattle.listing.proofs.reading.child_box.Goals as goal

pub returns : goal.returns
unfolding child_box
returns c = λ i. record { min = c.corner_at.ensures i; max = c.corner_at-2.ensures i }
