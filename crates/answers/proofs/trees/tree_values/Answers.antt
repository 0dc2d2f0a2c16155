-- `trees::tree_values` meets its contract: field by field.
use mathlib.Core.Path.{refl}
use Rattle.answers.specs.Trees.{tree_values}
use Rattle.answers.proofs.trees.tree_values.Goals as goal

pub returns : goal.returns
unfolding tree_values
returns c = refl
