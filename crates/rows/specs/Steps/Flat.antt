-- A tree as it lies in the table of rows, and what the scan for its ranges writes. Definitions only.
use Rattle.std.specs.Prelude.{ℕ, ◌*◌, ◌≤◌, ◌<◌, max, cond, List, ◌≡◌, eqb, length, take}
use Rattle.base.specs.Lists.{over}
use Rattle.records.specs.declared.scale.Scale.{Scale}
use Rattle.rows.specs.Tree.{Node, leaf, inner, size}
use Rattle.rows.specs.Rows.{Row, rows}
use Rattle.rows.specs.Ranges.{ranges}
use Rattle.rows.specs.Output.{trees_bytes}
use Rattle.rows.specs.Steps.Table.{table_of}

-- every leaf has an item
abbrev pub Full : Node → Type 0
Full (leaf b ps) = 0 < length ps
Full (inner b l r) = Full l × Full r

-- A tree of no items is one empty leaf; in any other tree every leaf has an item.
abbrev pub Filled : Node → Type 0
Filled (leaf b ps) = Unit {0}
Filled (inner b l r) = Full l × Full r

-- How many nodes the tree at a row has, by its head and count: an inner row's head, and 1 for a leaf. An empty leaf has the head 0.
abbrev pub tree_size : Row → ℕ
tree_size r = cond (eqb r.count 0) (max 1 r.head) 1

-- A table begins with the m rows of the tree t. An inner row is told from a leaf's by its count of 0, and the numbers of nodes fit a record.
pub record Flat (t : Node) (m : ℕ) (table : List ℕ) : Type 0 where
  pub number_is : m ≡ size t
  pub rows_are : take (8 * m) table ≡ table_of (rows 0 t)
  pub filled : Filled t
  pub few : size t ≤ 32767

-- What the scan for ranges asks: a limit from 1 on, the rows of some tree, and room for its ranges' records.
pub record Scannable (limit m : ℕ) (table trees : List ℕ) : Type 0 where
  pub limit_some : 0 < limit
  pub tree : Node
  pub flat : Flat tree m table
  pub room : 16 * length (ranges limit 0 tree) ≤ length trees

-- What it leaves: the records of the ranges of t, r of them, before what there was.
pub record TreesPut (limit : ℕ) (scale : Scale) (t : Node) (trees trees' : List ℕ) (r : ℕ) : Type 0 where
  pub bytes_are : trees' ≡ over (trees_bytes scale (ranges limit 0 t)) trees
  pub number_is : r ≡ length (ranges limit 0 t)
