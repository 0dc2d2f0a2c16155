-- `whole::infinite_start` meets its contract: the start, compared with the float of +infinity.
use mathlib.Core.Path.{ap₂}
use lib.Ieee.{eq}
use Rattle.shrinking.specs.Whole.{infinite_start}
use Rattle.shrinking.proofs.whole.infinite_start.Goals as goal

pub returns : goal.returns
unfolding infinite_start
returns c = ap₂ eq c.start_margin-start.ensures c.value.ensures
