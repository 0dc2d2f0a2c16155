-- `bounds_value_bits` meets its contract: what the two calls ensure, one after the other.
use mathlib.Core.Path.{ap, ◌∙◌}
use lib.Ieee.{binary32, to_bits}
use Rattle.bounds.proofs.bounds_value_bits.Goals as goal

pub returns : goal.returns
returns c = c.bits.ensures ∙ ap (to_bits binary32) c.value.ensures
