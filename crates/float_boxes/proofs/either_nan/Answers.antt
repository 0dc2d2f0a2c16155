-- `either_nan`: a NaN is what differs from itself.
use mathlib.Core.Path.{ap₂}
use mathlib.Core.Bool.{◌||◌}
use Rattle.float32.proofs.Patterns.{ne_self}
use Rattle.float_boxes.proofs.either_nan.Goals as goal

pub returns : goal.returns
returns c = ap₂ ◌||◌ (ne_self c.args.a) (ne_self c.args.b)
