use mathlib.Core.Path.{sym, ap, ◌∙◌}
use lib.Ieee.{binary32, to_bits}
use Rattle.float32.proofs.Patterns.{nan_if, no_nan_if, nan_pattern}
use Rattle.float32.proofs.words.bits.Goals as goal

pub float_to_bits-result : goal.float_to_bits-result
float_to_bits-result c = no_nan_if c.args.x c.if-x.false

pub returns-then-x : goal.returns-then-x
returns-then-x c = sym (ap (to_bits binary32) (nan_if c.args.x c.if-x.true) ∙ nan_pattern)
