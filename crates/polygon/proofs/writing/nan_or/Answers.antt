-- `writing::nan_or` meets its contract: what differs from itself is a NaN.
use mathlib.Core.Path.{sym, ap, ◌∙◌}
use lib.Ieee.{is_nan}
use Rattle.float32.proofs.Patterns.{ne_self}
use Rattle.polygon.specs.Polygons.{nan_or}
use Rattle.polygon.proofs.writing.nan_or.Goals as goal

pub returns-then-x : goal.returns-then-x
unfolding nan_or
returns-then-x c = let v = c.value-x in simp (sym (ap is_nan v.ensures) ∙ sym (ne_self v.result) ∙ c.if-x.true)

pub returns-else-x : goal.returns-else-x
unfolding nan_or
returns-else-x c = let v = c.value-x in simp (sym (ap is_nan v.ensures) ∙ sym (ne_self v.result) ∙ c.if-x.false)
