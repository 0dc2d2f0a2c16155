-- `answering::with_counts` meets its contract: field by field.
use mathlib.Core.Path.{refl}
use Rattle.octants.specs.Answers.{with_counts}
use Rattle.octants.proofs.answering.with_counts.Goals as goal

pub returns : goal.returns
unfolding with_counts
returns c = refl
