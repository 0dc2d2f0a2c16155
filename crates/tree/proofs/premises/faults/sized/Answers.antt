-- `faults::sized` meets its contract: the word it compares with is that of 2^100.
use mathlib.Core.Path.{ap, ap₂, ◌∙◌}
use lib.Ieee.{le}
use Rattle.float32.specs.Signs.{abs_of}
use Rattle.tree.proofs.premises.Powers.{at_most}
use Rattle.tree.specs.premises.Faults.{sized}
use Rattle.tree.proofs.premises.faults.sized.Goals as goal

pub returns : goal.returns
unfolding sized
returns c = ap₂ le (c.abs.ensures ∙ ap abs_of c.value.ensures) c.value-2.ensures ∙ at_most _
