-- `reading::corner_at` meets its contract: three words, each where it stands.
use Rattle.listing.specs.Reading.{corner_at}
use Rattle.listing.proofs.reading.corner_at.Goals as goal

pub returns : goal.returns
unfolding corner_at
returns c = λ i. record { x = c.word_at.ensures i; y = c.word_at-2.ensures i; z = c.word_at-3.ensures i }
