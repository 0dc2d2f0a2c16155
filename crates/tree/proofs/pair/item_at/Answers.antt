-- `pair::item_at` meets its contract: each way back is one case of `item_at`.
use mathlib.Core.Path.{◌∙◌}
use borrow.Author.Tests.{eq-eqb, ne_eqb}
use Rattle.tree.proofs.pair.item_at.Goals as goal

pub returns-then-threshold-eq1 : goal.returns-then-threshold-eq1
returns-then-threshold-eq1 c = rw (eq-eqb _ 1 c.if-threshold-eq1.true)

pub bounds-order-at : goal.bounds-order-at
bounds-order-at c =
    c.requires (ne_eqb _ 1 c.if-threshold-eq1.false)

pub returns : goal.returns
returns c =
    c.place_of.ensures ∙ rw (ne_eqb _ 1 c.if-threshold-eq1.false)
