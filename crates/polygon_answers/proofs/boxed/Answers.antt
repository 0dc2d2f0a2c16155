-- `boxed` meets its contract: field by field.
use mathlib.Core.Path.{refl}
use Rattle.polygon_answers.specs.Geometry.{boxed}
use Rattle.polygon_answers.proofs.boxed.Goals as goal

pub returns : goal.returns
unfolding boxed
returns c = refl
