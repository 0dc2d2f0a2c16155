-- `faults::sound_between` meets its contract.
use mathlib.Core.Path.{ap, ◌∙◌}
use Rattle.tree.specs.premises.Faults.{sound}
use Rattle.tree.proofs.premises.faults.sound_between.Goals as goal

pub returns : goal.returns
returns c = c.sound.ensures ∙ ap sound c.half_extent.ensures
