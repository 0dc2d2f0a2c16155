-- `corners::unpack_one` meets its contract: by the kind.
use mathlib.Core.Path.{sym, ◌∙◌}
use borrow.Author.Tests.{eq-eqb, ne_eqb}
use Rattle.corners.specs.Corners.{corners_at}
use Rattle.corners.proofs.unpack_one.Goals as goal

pub returns-then-kind_at-eq0 : goal.returns-then-kind_at-eq0
unfolding corners_at
returns-then-kind_at-eq0 c =
    let kind = sym c.kind_at.ensures ∙ c.if-kind_at-eq0.true in
    c.set_three.ensures ∙ simp (eq-eqb _ 0 kind, c.corner-first.ensures, c.corner-second.ensures, c.corner-third.ensures)

pub returns-else-kind_at-eq0 : goal.returns-else-kind_at-eq0
unfolding corners_at
returns-else-kind_at-eq0 c =
    c.set_three-else-kind_at-eq0.ensures ∙ simp (ne_eqb _ 0 (λ e. c.if-kind_at-eq0.false (c.kind_at.ensures ∙ e)))
