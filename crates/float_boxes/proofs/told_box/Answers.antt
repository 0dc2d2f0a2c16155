-- `told_box`: its fields are the definition's.
use mathlib.Core.Path.{refl}
use Rattle.float_boxes.specs.Floats.{told_box}
use Rattle.float_boxes.proofs.told_box.Goals as goal

pub returns : goal.returns
unfolding told_box
returns c = refl
