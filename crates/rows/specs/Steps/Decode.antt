-- What the writer of the rows' records asks. Definitions only.
use Rattle.std.specs.Prelude.{ℕ, ◌*◌, ◌≤◌, ◌<◌, List, [], ◌∷◌, length}
use Rattle.rows.specs.Output.{id_of}
use Rattle.rows.specs.Rows.{Row}
use Rattle.rows.specs.Steps.Table.{rows_in}

-- a row whose id and count an i16 holds, and of a leaf with items a first position within the leaf order
pub record Small (th : ℕ) (order : List ℕ) (r : Row) : Type 0 where
  pub id : id_of th order r < 32768
  pub items : r.count < 32768
  pub inside : 0 < r.count → r.head < length order

abbrev pub SmallRows : ℕ → List ℕ → List Row → Type 0
SmallRows th order [] = Unit {0}
SmallRows th order (r ∷ rs) = Small th order r × SmallRows th order rs

-- What the writer of the records of m rows asks of the slices that it is lent.
pub record RowsFit (th m : ℕ) (order table nodes : List ℕ) : Type 0 where
  pub rows_room : 8 * m ≤ length table
  pub nodes_room : 16 * m ≤ length nodes
  pub small : SmallRows th order (rows_in m table)
