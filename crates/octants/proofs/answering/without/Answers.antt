-- `answering::without` meets its contract: the number, and zeros.
use mathlib.Core.Path.{refl}
use Rattle.octants.specs.Answers.{without}
use Rattle.octants.proofs.answering.without.Goals as goal

pub returns : goal.returns
unfolding without
returns c = refl
