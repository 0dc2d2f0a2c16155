-- `faults::half_extent` meets its contract: what the calls ensure is the half extent.
use mathlib.Core.Path.{ap₂, ◌∙◌}
use Rattle.float32.specs.Extremes.{vmax_of}
use Rattle.tree.proofs.premises.faults.half_extent.Goals as goal

pub returns : goal.returns
returns c = c.vmax.ensures ∙ ap₂ vmax_of c.abs.ensures c.abs-2.ensures
