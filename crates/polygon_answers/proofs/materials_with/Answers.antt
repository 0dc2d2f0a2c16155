-- `materials_with` meets its contract: field by field.
use mathlib.Core.Path.{refl}
use Rattle.polygon_answers.specs.Geometry.{materials_with}
use Rattle.polygon_answers.proofs.materials_with.Goals as goal

pub returns : goal.returns
unfolding materials_with
returns c = refl
