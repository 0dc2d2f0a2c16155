use mathlib.Core.Path.{sym, ◌∙◌}
use Rattle.float32.proofs.Patterns.{no_nan, a_nan, zero_by_zero}
use Rattle.float32.proofs.words.value.Goals as goal

pub float_from_bits-result : goal.float_from_bits-result
float_from_bits-result c = no_nan c.args.word c.if-word-gt2139095040.false

pub returns-then-word-gt2139095040 : goal.returns-then-word-gt2139095040
returns-then-word-gt2139095040 c = zero_by_zero ∙ sym (a_nan c.args.word c.if-word-gt2139095040.true)
