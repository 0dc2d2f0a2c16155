-- What a rebuild asks of the slices that it is lent. Definitions only.
use Rattle.std.specs.Prelude.{ℕ, ◌+◌, ◌*◌, ◌<◌, ◌≤◌, List, length}
use Rattle.bvh.specs.Entry.{Outputs, Lent}

-- The polygons and vertices that are read, the records that are written, and where the vertices stand. Rule K2 (01: "no tree without polygons"): there is a polygon.
pub record Meshed (p v : ℕ) (polygons vertices out points : List ℕ) : Type 0 where
  pub some : 0 < p
  pub few : p ≤ 32767
  pub few_vertices : v ≤ 32768
  pub records : 16 * p ≤ length polygons
  pub words : 3 * v ≤ length vertices
  pub room : 16 * p ≤ length out
  pub points_room : 3 * v ≤ length points

-- The buffers of a build over p entries.
pub record BuildRoom (p : ℕ) (o : Outputs) (l : Lent) : Type 0 where
  pub nodes_room : 16 * (2 * p + 1) ≤ length o.nodes
  pub trees_room : 16 * (2 * p + 1) ≤ length o.trees
  pub order_room : p ≤ length o.order
  pub entries_room : 7 * p ≤ length l.entries
  pub places_room : p ≤ length l.places
  pub temp_room : p ≤ length l.temp
  pub stack_room : p ≤ length l.stack
  pub rows_room : 8 * (2 * p + 1) ≤ length l.rows
  pub centres_room : 4 * p ≤ length l.centres
