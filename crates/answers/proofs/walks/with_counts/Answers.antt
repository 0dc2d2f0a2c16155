-- `walks::with_counts` meets its contract: field by field.
use mathlib.Core.Path.{refl}
use Rattle.answers.specs.WalkAnswers.{counted}
use Rattle.answers.proofs.walks.with_counts.Goals as goal

pub returns : goal.returns
unfolding counted
returns c = refl
