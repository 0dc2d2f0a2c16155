-- `four_floats`: the four are there.
use mathlib.Core.Path.{refl}
use Rattle.float_boxes.specs.Floats.{four_floats}
use Rattle.float_boxes.proofs.four_floats.Goals as goal

pub returns : goal.returns
unfolding four_floats
returns c = refl
