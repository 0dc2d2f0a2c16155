-- `extremes::max_number` meets its contract: a NaN is what differs from itself.
use mathlib.Core.Path.{sym, ◌∙◌}
use Rattle.float32.specs.Extremes.{max_number_of}
use Rattle.float32.proofs.Patterns.{ne_self}
use Rattle.float32.proofs.extremes.max_number.Goals as goal

pub returns-then-a : goal.returns-then-a
unfolding max_number_of
returns-then-a c = rw (sym (ne_self c.args.a) ∙ c.if-a.true)

pub returns-then-b-a : goal.returns-then-b-a
unfolding max_number_of
returns-then-b-a c = rw (sym (ne_self c.args.a) ∙ c.if-a.false, c.if-b-a.true)

pub returns-else-b-a : goal.returns-else-b-a
unfolding max_number_of
returns-else-b-a c = rw (sym (ne_self c.args.a) ∙ c.if-a.false, c.if-b-a.false)
