-- `not_told`: its zeros are the definition's.
use mathlib.Core.Path.{refl}
use lib.Ieee.{of_bits}
use Rattle.float_boxes.specs.Floats.{not_told}
use Rattle.float_boxes.proofs.not_told.Goals as goal

pub returns : goal.returns
unfolding not_told of_bits
returns c = refl
