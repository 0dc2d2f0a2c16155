-- `boxes::overlap_f32` meets its contract: the two ways through it are the two values of the first test.
use Rattle.base.proofs.Truth.{and_yes, and_no}
use mathlib.Core.Path.{sym, ◌∙◌}
use Rattle.walk_steps.proofs.boxes.overlap_f32.Goals as goal

pub returns-then-min-other_max : goal.returns-then-min-other_max
returns-then-min-other_max c = sym (and_yes _ c.if-min-other_max.true)

pub returns-else-min-other_max : goal.returns-else-min-other_max
returns-else-min-other_max c = c.if-min-other_max.false ∙ sym (and_no _ c.if-min-other_max.false)
