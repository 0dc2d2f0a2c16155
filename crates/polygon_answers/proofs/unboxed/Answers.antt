-- `unboxed` meets its contract: the number, and zeros.
use mathlib.Core.Path.{refl}
use Rattle.polygon_answers.specs.Geometry.{unboxed}
use Rattle.polygon_answers.proofs.unboxed.Goals as goal

pub returns : goal.returns
unfolding unboxed
returns c = refl
