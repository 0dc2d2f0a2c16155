-- `nan_in_three`: what its tests say.
use mathlib.Core.Path.{ap₂}
use mathlib.Core.Bool.{◌||◌}
use Rattle.float_boxes.proofs.nan_in_three.Goals as goal

pub returns : goal.returns
returns c = ap₂ ◌||◌ c.nan_in.ensures c.nan_in-2.ensures
