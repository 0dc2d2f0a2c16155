-- `round_struct` meets its contract: field by field.
use mathlib.Core.Path.{refl}
use Rattle.polygon_answers.specs.Geometry.{round_struct}
use Rattle.polygon_answers.proofs.round_struct.Goals as goal

pub returns : goal.returns
unfolding round_struct
returns c = refl
