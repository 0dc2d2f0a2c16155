-- Point 3 of the request, of a call of `bounds_prepare_bvh` and a call of `bounds_walk` over the tree that it wrote. Definitions only.
-- It speaks of what a caller holds: the mesh that was given, the two answers, the returned polygon bytes (`polygons`), the node and tree bytes and the
-- order list (`after`), and the walk's output before and after.
-- A polygon has two numbers: its given number is its place in the list as given, its prepared number its place in the returned polygon bytes. Positions in
-- leaf records and in the walk's output are prepared numbers; at each prepared number the order list has the given one.
use Rattle.std.specs.Prelude.{◌≡◌, ℕ, ◌+◌, ◌<◌, ◌≤◌, true, cond, List, length, take, nat_lt, slice_index}
use mathlib.Core.List.{Memᴰ}
use Rattle.base.specs.Lists.{occurrences, over}
use Rattle.bvh.specs.Build.{Entries}
use Rattle.bvh.specs.Entry.{Outputs}
use Rattle.math.specs.declared.aabb.Aabb.{Aabb}
use Rattle.meshes.specs.Meshes.{Mesh}
use Rattle.prepared_delivers.specs.Delivers.{box_of_record, given_entries}
use Rattle.rebuild.specs.Rebuilding.{leaf_limit}
use Rattle.tree.specs.Pair.{Ordinary}
use Rattle.tree.specs.WellFormed.{node_no, tree_no, items_held, is_leaf, ranges_with, NodeNumbers, RangeNumbers, FromLeaf}
use Rattle.walk.specs.Walks.{walk_of}
use Rattle.walk_steps.specs.Boxes.{query_of, meets_box}
use Rattle.answers.specs.WalkAnswers.{sizes_of, WalkAnswered}
use Rattle.answers.specs.declared.walks.WalkAnswer.{WalkAnswer}
use Rattle.prepare_answers.specs.declared.PrepareAnswer.{PrepareAnswer}

-- Rule P3, of p polygons: the contract of `bounds_walk` where it is given the prepared tree's node and tree bytes unchanged, its cen and inverse, its
-- node and tree counts without padding, and as item count the polygons.
abbrev pub WalkedOver : ℕ → Aabb → PrepareAnswer → Outputs → List ℕ → List ℕ → WalkAnswer → Type 0
WalkedOver p query r after out out' w =
    WalkAnswered
    (walk_of query r.tree.scale.cen r.tree.scale.inverse (sizes_of r.tree.nodes r.tree.trees p) after.nodes after.trees (length out))
    out out' w

-- the prepared numbers that a walk handed out: the first places of its output
abbrev pub handed_out : List ℕ → WalkAnswer → List ℕ
handed_out out' w = take w.handed out'

-- Rules G9 and K1: the box of record k of some polygon bytes, the given ones or the returned ones. It is over the given vertices where they stand after
-- centre and transform, not over the vertices that were returned.
abbrev pub polygon_box : Mesh → List ℕ → ℕ → Aabb
polygon_box g records k = box_of_record g.bound g.counts.vertices g.vertices records k

-- the entries of the given polygons, each with its box
abbrev pub entries_of : Mesh → Entries
entries_of g = given_entries g.bound g.counts.polygons g.counts.vertices g.polygons g.vertices

-- Rules P4 and P5 (request, point 3) for a mesh of kind 8 with polygons that was answered r with refusal 0, and the walk over its tree, answered w. Beside
-- each field stand the request's words, and which numbers it has: q is a given number, k a prepared one, i a node record's, j a tree record's.
pub record PointThree (g : Mesh) (query : Aabb) (r : PrepareAnswer) (polygons : List ℕ) (after : Outputs) (out out' : List ℕ) (w : WalkAnswer)
    : Type 0 where
  -- "Whatever boxes are listed, NaN boxes included: in a build that isn't refused each present item lies in exactly one leaf" (and nothing else in any).
  -- The items are the polygons. Given numbers: `items_held` goes from a leaf's positions through the order list.
  pub each_polygon_in_exactly_one_leaf : (q : ℕ) → q < g.counts.polygons → occurrences q (items_held leaf_limit after 0 r.tree.nodes) ≡ 1
  pub no_other_polygon_in_a_leaf : (q : ℕ) → 0 < occurrences q (items_held leaf_limit after 0 r.tree.nodes) → q < g.counts.polygons
  -- all polygons are present: 01's item count above threshold 1, the present items, is the count of polygons
  pub each_polygon_is_present : r.tree.present ≡ g.counts.polygons
  -- "no leaf holds more items than the threshold", which is 4. A leaf's positions, id to id + count − 1, are prepared numbers.
  pub no_leaf_over_four : (i : ℕ) → i < r.tree.nodes → NodeNumbers leaf_limit g.counts.polygons (node_no after i)
  -- "each leaf lies in exactly one tree range": numbers of node records, none of polygons
  pub each_leaf_in_exactly_one_range : (i : ℕ) → i < r.tree.nodes → is_leaf (node_no after i) ≡ true → ranges_with i after 0 r.tree.trees ≡ 1
  -- "and no range has more than 127 nodes": a number of a tree record
  pub no_range_over_127_nodes : (j : ℕ) → j < r.tree.trees → RangeNumbers r.tree.nodes (tree_no after j)
  -- From prepared numbers to given ones: the first places of the order list have each given number once, and the prepared polygon k has the box of the given
  -- one whose number stands there at k.
  pub order_has_each_given_number_once : (q : ℕ) → q < g.counts.polygons → occurrences q (take g.counts.polygons after.order) ≡ 1
  pub order_leads_to_the_given_polygon : (k : ℕ) → k < g.counts.polygons
      → (slice_index after.order k < g.counts.polygons) × (polygon_box g polygons k ≡ polygon_box g g.polygons (slice_index after.order k))
  -- "a walk over that build is refused only where document 01 gives it 2": where the output is shorter than the polygons are many, and there always
  pub refused_exactly_where_the_output_is_short : w.refusal ≡ cond (nat_lt (length out) g.counts.polygons) 2 0
  -- "Suppose all present boxes are finite with min at most max, no coordinate exceeds 2^100 in size, and each axis's half extent q is 0 or at least
  -- 2^-100 [..] Otherwise it hands out every present item whose box meets the query". The premises are of the boxes of the given polygons; what is handed
  -- out are prepared numbers. A query with a NaN meets no box: nothing is asked of the query.
  pub every_polygon_that_meets : Ordinary (entries_of g) → w.refusal ≡ 0 → (k : ℕ) → k < g.counts.polygons
      → meets_box (polygon_box g polygons k) query ≡ true → occurrences k (handed_out out' w) ≡ 1
  -- "no item twice" (and only polygons): prepared numbers, each below the count of polygons
  pub no_polygon_twice : (k : ℕ) → occurrences k (handed_out out' w) ≤ 1
  pub only_polygons : (k : ℕ) → 0 < occurrences k (handed_out out' w) → k < g.counts.polygons
  -- "and none from a leaf record that misses the query": a prepared number is a position of a leaf record that meets it
  pub none_from_a_leaf_that_misses : (k : ℕ) → Memᴰ k (handed_out out' w)
      → FromLeaf (query_of query r.tree.scale.cen r.tree.scale.inverse) r.tree.nodes after k
  -- as many as the answer says, and the rest of the output is as it was
  pub as_many_as_it_says : length (handed_out out' w) ≡ w.handed
  pub rest_as_it_was : out' ≡ over (handed_out out' w) out
  -- "Its result's count of records read is at most the build's nodes plus its trees."
  pub reads_at_most_nodes_plus_trees : w.reads ≤ r.tree.nodes + r.tree.trees
