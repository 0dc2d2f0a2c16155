-- What the builder asks of the slices that it is lent, and what each of its steps leaves there. Definitions only.
use Rattle.std.specs.Prelude.{ℕ, ◌+◌, ◌*◌, ◌≤◌, ◌<◌, List, ◌++◌, ◌≡◌, length, take}
use Rattle.base.specs.Lists.{Within}
use Rattle.rows.specs.Rows.{rows}
use Rattle.growth.specs.Grow.{Builder, grow}
use Rattle.rows.specs.Tree.{leaf_order, size}
use Rattle.rows.specs.Steps.Sizes.{bare_rows}
use Rattle.rows.specs.Steps.Table.{table_of, with_row}

-- what the builder asks
pub record Room (th : ℕ) (places temp entries stack table : List ℕ) : Type 0 where
  pub few : length places < 32768
  pub temp_room : length places ≤ length temp
  pub stack_room : length places ≤ length stack
  pub rows_room : 8 * (2 * length places + 1) ≤ length table
  pub threshold : 0 < th
  pub within : Within (length entries) places

-- an inner node is written: its row m, and in the place of its items ps the two groups, r in the first
pub record InnerPut (b : Builder) (m : ℕ) (ps ps' table table' : List ℕ) (r : ℕ) : Type 0 where
  pub row_put : table' ≡ with_row m (record { box = b.box ps; head = 0; count = 0 }) table
  pub groups : ps' ≡ b.first ps ++ b.second ps
  pub group_size : r ≡ length (b.first ps)
  pub some : 0 < r
  pub rest : r < length ps

-- the whole tree is written: the places leaf after leaf, and r rows in preorder, their numbers of nodes yet to come
pub record Laid (b : Builder) (th : ℕ) (ps places table : List ℕ) (r : ℕ) : Type 0 where
  pub order_is : places ≡ leaf_order (grow b th ps)
  pub rows_are : take (8 * r) table ≡ table_of (bare_rows 0 (grow b th ps))
  pub most : r < 2 * length ps

-- and the numbers of nodes have come
pub record Grown (b : Builder) (th : ℕ) (ps places table : List ℕ) (r : ℕ) : Type 0 where
  pub order_is : places ≡ leaf_order (grow b th ps)
  pub rows_are : take (8 * r) table ≡ table_of (rows 0 (grow b th ps))
  pub size_is : r ≡ size (grow b th ps)
  pub most : r ≤ 2 * length ps + 1
