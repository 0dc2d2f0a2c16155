-- `ranges::tree_size` meets its contract: the three ways through it are the cases of the definition.
use borrow.Author.Tests.{eq-eqb, ne_eqb}
use native.Mathlib.Omega.{arith}
use Rattle.rows.proofs.ranges.tree_size.Goals as goal

pub returns-then-head-gt1 : goal.returns-then-head-gt1
returns-then-head-gt1 c =
    let none = eq-eqb _ 0 c.if-row_count-eq0.true in
    rw (← c.row_count.ensures, none) (omega (arith, c.if-head-gt1.true, c.row_head-head.ensures))

pub returns-else-head-gt1 : goal.returns-else-head-gt1
returns-else-head-gt1 c =
    let none = eq-eqb _ 0 c.if-row_count-eq0.true in
    rw (← c.row_count.ensures, none) (omega (arith, c.if-head-gt1.false, c.row_head-head.ensures))

pub returns-else-row_count-eq0 : goal.returns-else-row_count-eq0
returns-else-row_count-eq0 c = rw (← c.row_count.ensures, ne_eqb _ 0 c.if-row_count-eq0.false)
