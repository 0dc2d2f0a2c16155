-- `extremes::vmin_word` meets its contract: the test is on the words' floats, the answer a copy.
use Rattle.float32.specs.Extremes.{vmin_word}
use Rattle.float32.proofs.extremes.vmin_word.Goals as goal

pub returns-then-value : goal.returns-then-value
unfolding vmin_word
returns-then-value c = rw (← c.value.ensures, ← c.value-2.ensures, c.if-value.true)

pub returns-else-value : goal.returns-else-value
unfolding vmin_word
returns-else-value c = rw (← c.value.ensures, ← c.value-2.ensures, c.if-value.false)
