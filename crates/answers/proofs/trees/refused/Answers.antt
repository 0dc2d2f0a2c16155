-- `trees::refused` meets its contract: the number, and zeros.
use mathlib.Core.Path.{refl}
use lib.Ieee.{of_bits}
use Rattle.answers.specs.Trees.{refused_by}
use Rattle.answers.proofs.trees.refused.Goals as goal

pub returns : goal.returns
unfolding refused_by of_bits
returns c = refl
