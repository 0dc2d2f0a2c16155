-- `extremes::vmax` meets its contract: each arm is the one that the definition picks by the same test.
use Rattle.float32.specs.Extremes.{vmax_of}
use Rattle.float32.proofs.extremes.vmax.Goals as goal

pub returns-then-a-b : goal.returns-then-a-b
unfolding vmax_of
returns-then-a-b c = rw c.if-a-b.true

pub returns-else-a-b : goal.returns-else-a-b
unfolding vmax_of
returns-else-a-b c = rw c.if-a-b.false
