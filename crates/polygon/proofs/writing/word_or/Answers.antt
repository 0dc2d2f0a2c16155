-- `writing::word_or` meets its contract: what differs from itself is a NaN.
use mathlib.Core.Path.{sym, ◌∙◌}
use Rattle.float32.proofs.Patterns.{ne_self}
use Rattle.polygon.specs.Polygons.{word_or}
use Rattle.polygon.proofs.writing.word_or.Goals as goal

pub returns-then-x : goal.returns-then-x
unfolding word_or
returns-then-x c = c.nan_or.ensures ∙ simp (sym (ne_self c.args.x) ∙ c.if-x.true)

pub returns-else-x : goal.returns-else-x
unfolding word_or
returns-else-x c = c.bits.ensures ∙ simp (sym (ne_self c.args.x) ∙ c.if-x.false)
