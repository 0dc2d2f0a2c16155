-- `pair::item_count` meets its contract: the test of `count_for`.
use borrow.Author.Tests.{eq-eqb, ne_eqb}
use Rattle.tree.proofs.pair.item_count.Goals as goal

pub returns-then-threshold-eq1 : goal.returns-then-threshold-eq1
returns-then-threshold-eq1 c = rw (eq-eqb _ 1 c.if-threshold-eq1.true)

pub returns-else-threshold-eq1 : goal.returns-else-threshold-eq1
returns-else-threshold-eq1 c = rw (ne_eqb _ 1 c.if-threshold-eq1.false)
