-- `casts::number_word` meets its contract: a NaN is what differs from itself.
use mathlib.Core.Path.{sym, ◌∙◌}
use Rattle.float32.proofs.Patterns.{ne_self, no_nan_if}
use Rattle.float32.proofs.casts.number_word.Goals as goal

pub float_to_bits-result : goal.float_to_bits-result
float_to_bits-result c = no_nan_if c.args.x c.if-x.false

pub returns-then-x : goal.returns-then-x
returns-then-x c = rw (sym (ne_self c.args.x) ∙ c.if-x.true)

pub returns-else-x : goal.returns-else-x
returns-else-x c = rw (sym (ne_self c.args.x) ∙ c.if-x.false)
