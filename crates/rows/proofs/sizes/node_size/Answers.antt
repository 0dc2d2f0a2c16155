-- `sizes::node_size` meets its contract: a row of the table or none, a leaf or not.
use Prim.Native.Nat.{ℕ, ◌<◌}
use mathlib.Core.Bool.{cond}
use mathlib.Core.List.{List}
use mathlib.Core.Path.{◌≡◌, sym, ap, ◌∙◌}
use borrow.Author.Tests.{eq-eqb, ne_eqb}
use lib.Dec.{eqb}
use Rattle.rows.specs.Rows.{Row}
use Rattle.rows.specs.Steps.Sizes.{size_at}
use Rattle.rows.specs.Steps.Table.{row_at, rows_in}
use Rattle.rows.proofs.TableLaws.{row_in, length_rows_in}
use Rattle.rows.proofs.sizes.Sizing.{size_in, size_out}
use native.Mathlib.Omega.{arith}
use Rattle.rows.proofs.sizes.node_size.Goals as goal

at_row : (m j : ℕ) (table : List ℕ) → j < m → size_at (rows_in m table) j ≡ cond (eqb (row_at table j).count 0) (row_at table j).head 1
at_row m j table h =
    size_in (rows_in m table) j (row_at table j) (omega (arith, length_rows_in m table))
    ∙ ap (λ (r : Row). cond (eqb r.count 0) r.head 1) (row_in m table j (row_at table j) h)

pub returns-then-row_count-eq0 : goal.returns-then-row_count-eq0
returns-then-row_count-eq0 c =
    let a = c.args in
    let row = at_row a.m a.j a.rows.now c.if-j-m.true in
    rw (row, ← c.row_count.ensures, eq-eqb _ _ c.if-row_count-eq0.true) c.row_head.ensures

pub returns-else-row_count-eq0 : goal.returns-else-row_count-eq0
returns-else-row_count-eq0 c =
    let a = c.args in
    rw (at_row a.m a.j a.rows.now c.if-j-m.true, ← c.row_count.ensures, ne_eqb _ _ c.if-row_count-eq0.false)

pub returns-else-j-m : goal.returns-else-j-m
returns-else-j-m c =
    let a = c.args in
    sym (size_out (rows_in a.m a.rows.now) a.j (omega (arith, length_rows_in a.m a.rows.now, c.if-j-m.false)))
