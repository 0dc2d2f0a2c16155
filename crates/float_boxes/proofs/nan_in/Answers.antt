-- `nan_in`: what its tests say, lane by lane.
use mathlib.Core.Path.{ap₂}
use mathlib.Core.Bool.{◌||◌}
use Rattle.float_boxes.specs.Floats.{nan_in}
use Rattle.float_boxes.proofs.nan_in.Goals as goal

pub returns : goal.returns
unfolding nan_in
returns c =
    ap₂ ◌||◌ (ap₂ ◌||◌ c.either_nan.ensures c.either_nan-2.ensures) (ap₂ ◌||◌ c.either_nan-3.ensures c.either_nan-4.ensures)
