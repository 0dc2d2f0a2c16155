-- `emit::item_id` meets its contract: each way back is one case of the definition.
use mathlib.Core.Path.{◌∙◌}
use borrow.Author.Tests.{eq-eqb, ne_eqb}
use native.Mathlib.Omega.{arith}
use Rattle.rows.proofs.emit.item_id.Goals as goal

pub returns-then-count-eq0 : goal.returns-then-count-eq0
returns-then-count-eq0 c = λ b. simp (eq-eqb _ _ c.if-count-eq0.true)

pub place_at-place-requires : goal.place_at-place-requires
place_at-place-requires c = c.requires (omega arith)

pub returns-then-threshold-eq1 : goal.returns-then-threshold-eq1
returns-then-threshold-eq1 c = λ b. c.place_at-place.ensures ∙ simp (ne_eqb _ _ c.if-count-eq0.false, eq-eqb _ _ c.if-threshold-eq1.true)

pub returns-else-threshold-eq1 : goal.returns-else-threshold-eq1
returns-else-threshold-eq1 c = λ b. simp (ne_eqb _ _ c.if-count-eq0.false, ne_eqb _ _ c.if-threshold-eq1.false)
