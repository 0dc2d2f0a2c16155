-- `extremes::vmin` meets its contract: each arm is the one that the definition picks by the same test.
use Rattle.float32.specs.Extremes.{vmin_of}
use Rattle.float32.proofs.extremes.vmin.Goals as goal

pub returns-then-a-b : goal.returns-then-a-b
unfolding vmin_of
returns-then-a-b c = rw c.if-a-b.true

pub returns-else-a-b : goal.returns-else-a-b
unfolding vmin_of
returns-else-a-b c = rw c.if-a-b.false
