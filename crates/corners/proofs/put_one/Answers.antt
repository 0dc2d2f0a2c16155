-- `corners::put_one` meets its contract: a triangle's links are stored, and of another kind nothing changes.
use borrow.Author.Rules.{rules}
use mathlib.Core.Path.{sym, ◌∙◌}
use borrow.Author.Tests.{ne_eqb}
use Rattle.corners.proofs.CornerLaws.{linked_triangle, linked_other}
use Rattle.corners.proofs.put_one.Goals as goal

pub returns-then-kind_at-eq0 : goal.returns-then-kind_at-eq0
returns-then-kind_at-eq0 c =
    c.put_three.ensures ∙ linked_triangle _ _ _ (sym c.kind_at.ensures ∙ c.if-kind_at-eq0.true) (search rules)

pub returns-else-kind_at-eq0 : goal.returns-else-kind_at-eq0
returns-else-kind_at-eq0 c = linked_other _ _ _ (ne_eqb _ 0 (λ e. c.if-kind_at-eq0.false (c.kind_at.ensures ∙ e))) (search rules)
