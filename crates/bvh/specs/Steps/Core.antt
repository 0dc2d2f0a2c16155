-- What the parts of the build's core ask of the slices that they are lent, and what they leave. Definitions only.
use Rattle.std.specs.Prelude.{◌≡◌, ℕ, ◌+◌, ◌-◌, ◌*◌, ◌<◌, ◌≤◌, List, ◌++◌, length, take}
use Rattle.base.specs.Lists.{over, Below}
use Rattle.records.specs.declared.scale.Scale.{Scale}
use Rattle.entries.specs.Boxes.{box_at}
use Rattle.bvh.specs.declared.slices.BuiltTree.{BuiltTree}
use Rattle.bvh.specs.declared.slices.Planted.{Planted}
use Rattle.bvh.specs.declared.slices.Task.{Task}
use Rattle.bvh.specs.Build.{Entries, tree_of, built_by, nodes_written, trees_written_by, order_written}
use Rattle.bvh.specs.Entry.{Outputs, Lent}
use Rattle.bvh.specs.Items.{marked}
use Rattle.rows.specs.Output.{nodes_bytes, pad_bytes, capacity_of}
use Rattle.growth.specs.Grow.{builder}
use Rattle.growth.specs.Steps.Laid.{Grown}
use Rattle.rows.specs.Steps.Table.{rows_in}

-- The records of m rows of the table and the padding behind them, r records in all.
pub record NodesWritten (s : Scale) (t : Task) (m : ℕ) (order table nodes nodes' : List ℕ) (r : ℕ) : Type 0 where
  pub capacity_is : r ≡ capacity_of t.threshold t.n m
  pub bytes_are : nodes' ≡ over (nodes_bytes s t.threshold order (rows_in m table) ++ pad_bytes (r - m)) nodes

-- What the writer of the order list asks.
pub record OrderFits (t : Task) (entries leaves temp order : List ℕ) : Type 0 where
  pub few : t.n ≤ 32767
  pub entries_room : 7 * t.n ≤ length entries
  pub temp_room : t.n ≤ length temp
  pub order_room : t.n ≤ length order
  pub leaves_few : length leaves ≤ t.n
  pub leaves_below : Below 65536 leaves

-- What is asked before a tree is planted: n entries, and work buffers for them.
pub record WorkRoom (t : Task) (l : Lent) : Type 0 where
  pub few : t.n ≤ 32767
  pub threshold : 0 < t.threshold
  pub entries_are : length l.entries ≡ 7 * t.n
  pub places_room : t.n ≤ length l.places
  pub temp_room : t.n ≤ length l.temp
  pub stack_room : t.n ≤ length l.stack
  pub rows_room : 8 * (2 * t.n + 1) ≤ length l.rows
  pub centres_room : 4 * t.n ≤ length l.centres

-- The tree of the marked places is planted: their number, and its rows.
pub record TreePlanted (t : Task) (entries places table : List ℕ) (p : Planted) : Type 0 where
  pub grown : Grown (builder (box_at entries)) t.threshold (marked 0 t.n entries) (take p.present places) table p.nodes
  pub present_is : p.present ≡ length (marked 0 t.n entries)
  pub most : p.present ≤ t.n

-- What is asked before its records are written.
pub record Writable (t : Task) (p : Planted) (entries places temp table : List ℕ) (o : Outputs) : Type 0 where
  pub planted : TreePlanted t entries places table p
  pub nodes_few : p.nodes ≤ 32767
  pub few : t.n ≤ 32767
  pub threshold : 0 < t.threshold
  pub limit : 0 < t.limit
  pub entries_are : length entries ≡ 7 * t.n
  pub places_room : t.n ≤ length places
  pub temp_room : t.n ≤ length temp
  pub rows_room : 8 * (2 * t.n + 1) ≤ length table
  pub nodes_room : 16 * (2 * t.n + 1) ≤ length o.nodes
  pub trees_room : 16 * (2 * t.n + 1) ≤ length o.trees
  pub order_room : t.n ≤ length o.order

-- The values and the outputs of a build that is not refused, at a limit of nodes a range.
pub record Written (limit : ℕ) (e : Entries) (th : ℕ) (b : BuiltTree) (before after : Outputs) : Type 0 where
  pub built : b ≡ built_by limit e th (tree_of e th)
  pub nodes_are : after.nodes ≡ over (nodes_written e th) before.nodes
  pub trees_are : after.trees ≡ over (trees_written_by limit e th) before.trees
  pub order_is : after.order ≡ over (order_written e th) before.order
