-- `draw::whole` meets its contract: what the two calls ensure, one in the other.
use Rattle.std.proofs.Common.{ap, ◌∙◌}
use Rattle.float32.specs.Counts.{of_count}
use Rattle.pairs.specs.Drawing.{whole_of}
use Rattle.pairs.proofs.draw.whole.Goals as goal

pub returns : goal.returns
unfolding whole_of
returns c = c.of_count.ensures ∙ ap of_count c.below.ensures.value
