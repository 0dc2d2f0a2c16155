-- Point 3 of the request, of a prepared mesh with a tree and a walk over its records. Definitions only.
use Rattle.std.specs.Prelude.{ℕ, ◌+◌, ◌*◌, ◌≤◌, ◌<◌, true, cond, ◌≡◌, ltb, length, get_or, take}
use mathlib.Core.List.{List, Memᴰ}
use Rattle.base.specs.Lists.{occurrences, over}
use Rattle.bvh.specs.Build.{Entries}
use Rattle.bvh.specs.Entry.{Outputs}
use Rattle.bvh.specs.declared.slices.BuiltTree.{BuiltTree}
use Rattle.math.specs.Stored.{values_of}
use Rattle.math.specs.declared.aabb.Aabb.{Aabb}
use Rattle.meshes.specs.declared.Bound.{Bound}
use Rattle.points.specs.Points.{positions_of}
use Rattle.polygon.specs.Polygons.{polygon_at}
use Rattle.polygon_boxes.specs.Boxes.{bbox_of}
use Rattle.polygon_boxes.specs.declared.PolygonBox.{PolygonBox}
use Rattle.rebuild.specs.Rebuilding.{leaf_limit, polygon_entries}
use Rattle.tree.specs.Pair.{Ordinary}
use Rattle.tree.specs.WellFormed.{WellFormed, FromLeaf}
use Rattle.walk.specs.Walks.{Walk, walk_of, number_of, counts_of, Promise}
use Rattle.walk_steps.specs.Boxes.{query_of, meets_box}

-- Rule P3, of p polygons whose tree x was written into `after`: the contract of a walk that is given its node and tree bytes unchanged, its cen and
-- inverse, its node and tree counts without padding, and as item count the polygons.
abbrev pub WalkedOver : ℕ → Aabb → BuiltTree → Outputs → List ℕ → List ℕ → Walk → Type 0
WalkedOver p query x after out out' w =
    Promise
    (walk_of query x.scale.cen x.scale.inverse (record { nodes = x.nodes; trees = x.trees; items = p }) after.nodes after.trees (length out))
    out out' w

-- the numbers in the prepared list that a walk handed out: the first places of its output
abbrev pub handed_out : List ℕ → Walk → List ℕ
handed_out out' w = take (counts_of w).handed out'

-- a polygon's box as floats
abbrev pub floats_of : PolygonBox → Aabb
floats_of x = record { min = values_of x.min; max = values_of x.max }

-- Rules G9 and K1: the box of the polygon in record k, over the v given vertices where they stand after centre and transform.
abbrev pub box_of_record : Bound → ℕ → List ℕ → List ℕ → ℕ → Aabb
box_of_record b v vertices records k = floats_of (bbox_of (polygon_at records (16 * k)) (positions_of b.transform b.center vertices v))

-- the entries of the polygons as they are given
abbrev pub given_entries : Bound → ℕ → ℕ → List ℕ → List ℕ → Entries
given_entries b p v polygons vertices = polygon_entries b.transform b.center p v polygons vertices

-- Rules P4 and P5 (request, point 3) for a mesh of p polygons with the tree x, whose prepared records stand first in `records`. A polygon has two
-- numbers: a given one, its place in the list as given, and a prepared one, its place in the prepared list. Positions of leaves are prepared numbers.
pub record Delivers (b : Bound) (p v : ℕ) (polygons vertices records : List ℕ) (query : Aabb) (x : BuiltTree) (after : Outputs)
    (out out' : List ℕ) (w : Walk) : Type 0 where
  -- whatever the boxes: each polygon in exactly one leaf, no leaf over four, each leaf in exactly one range, no range over 127 nodes; by given numbers
  pub well_formed : WellFormed (given_entries b p v polygons vertices) leaf_limit x after
  pub each_polygon_is_present : x.present ≡ p
  -- the order list leads from a prepared number to the given one: to each given number once, and to the polygon with the same box
  pub order_has_each_given_number_once : (q : ℕ) → q < p → occurrences q (take p after.order) ≡ 1
  pub order_leads_to_the_given_polygon : (k : ℕ) → k < p
      → (get_or after.order k 0 < p) × (box_of_record b v vertices records k ≡ box_of_record b v vertices polygons (get_or after.order k 0))
  -- the walk is refused with 2 exactly where the output is shorter than the polygons are many, and with nothing else
  pub refused_exactly_where_the_output_is_short : number_of w ≡ cond (ltb (length out) p) 2 0
  -- otherwise, where the polygons' boxes meet the premises, it hands out the prepared number of every polygon whose box meets the query
  pub every_polygon_that_meets : Ordinary (given_entries b p v polygons vertices) → number_of w ≡ 0 → (k : ℕ) → k < p
      → meets_box (box_of_record b v vertices records k) query ≡ true → occurrences k (handed_out out' w) ≡ 1
  -- none twice, and only prepared numbers
  pub no_polygon_twice : (k : ℕ) → occurrences k (handed_out out' w) ≤ 1
  pub only_polygons : (k : ℕ) → 0 < occurrences k (handed_out out' w) → k < p
  -- and none from a leaf record that misses the query
  pub none_from_a_leaf_that_misses : (k : ℕ) → Memᴰ k (handed_out out' w)
      → FromLeaf (query_of query x.scale.cen x.scale.inverse) x.nodes after k
  -- as many as the answer says, and the rest of the output is as it was
  pub as_many_as_it_says : length (handed_out out' w) ≡ (counts_of w).handed
  pub rest_as_it_was : out' ≡ over (handed_out out' w) out
  -- the records read are at most the nodes and the trees
  pub reads_at_most_nodes_plus_trees : (counts_of w).reads ≤ x.nodes + x.trees
