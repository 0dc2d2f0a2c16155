-- `counts_of` reads the first eight numbers.
use mathlib.Core.Path.{refl}
use Rattle.octants.specs.Steps.Lists.{counts_in}
use Rattle.octants.proofs.lists.counts_of.Goals as goal

pub returns : goal.returns
unfolding counts_in
returns c = refl
