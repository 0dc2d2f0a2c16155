-- Point 3 of the request, of a call of `bounds_build_bvh` and a call of `bounds_walk` over what it wrote. Definitions only.
-- It speaks of what a caller holds: the two answers, the node and tree bytes, the order list, and the walk's output. The records are read from
-- their bytes by `node_no` and `tree_no`, and the item at a position is the position itself at threshold 1, else what the order list has there (`items_at`).
use Rattle.std.specs.Prelude.{ℕ, ◌+◌, ◌≤◌, ◌<◌, true, cond, ◌≡◌, ltb, length, take}
use mathlib.Core.List.{List, Memᴰ}
use Rattle.base.specs.Lists.{occurrences, over}
use Rattle.math.specs.declared.aabb.Aabb.{Aabb}
use Rattle.bvh.specs.Build.{Entries}
use Rattle.bvh.specs.Entry.{Outputs}
use Rattle.walk_steps.specs.Boxes.{query_of, meets_box}
use Rattle.walk.specs.Walks.{walk_of}
use Rattle.tree.specs.Pair.{Ordinary, box_values}
use Rattle.tree.specs.WellFormed.{count_for, node_no, tree_no, items_at, items_held, is_leaf, ranges_with, NodeNumbers, RangeNumbers, FromLeaf}
use Rattle.answers.specs.declared.trees.BuildAnswer.{BuildAnswer}
use Rattle.answers.specs.declared.walks.WalkAnswer.{WalkAnswer}
use Rattle.answers.specs.WalkAnswers.{sizes_of, WalkAnswered}

-- Rule P3 (01, Walk: over a build the walk is given its node and tree bytes unchanged, its cen and inverse, its node and tree counts without padding,
-- and as item count the entries at threshold 1, else the present items): the contract of `bounds_walk` where it is given these.
abbrev pub WalkedOver : Entries → ℕ → Aabb → BuildAnswer → Outputs → List ℕ → List ℕ → WalkAnswer → Type 0
WalkedOver e th query r after out out' w =
    WalkAnswered
    (walk_of query r.scale.cen r.scale.inverse (sizes_of r.nodes r.trees (count_for th e.number r.present))
    after.nodes after.trees (length out))
    out out' w

-- the positions that a walk handed out: the first places of its output
abbrev pub handed_out : List ℕ → WalkAnswer → List ℕ
handed_out out' w = take w.handed out'

-- Rules P4 and P5 (request, point 3): the build of the entries e answered r with refusal 0 and left `after`; the walk over it answered w, and its
-- output is out', which was out. Beside each field stand the request's words.
pub record PointThree (e : Entries) (th : ℕ) (query : Aabb) (r : BuildAnswer) (after : Outputs) (out out' : List ℕ) (w : WalkAnswer) : Type 0 where
  -- "Whatever boxes are listed, NaN boxes included: in a build that isn't refused each present item lies in exactly one leaf" (and no other item in any)
  pub each_present_item_in_exactly_one_leaf : (p : ℕ) → Memᴰ p e.places → occurrences p (items_held th after 0 r.nodes) ≡ 1
  pub no_other_item_in_a_leaf : (p : ℕ) → occurrences p (items_held th after 0 r.nodes) ≡ occurrences p e.places
  -- "no leaf holds more items than the threshold"
  pub no_leaf_over_the_threshold : (k : ℕ) → k < r.nodes → NodeNumbers th (count_for th e.number r.present) (node_no after k)
  -- "each leaf lies in exactly one tree range"
  pub each_leaf_in_exactly_one_range : (k : ℕ) → k < r.nodes → is_leaf (node_no after k) ≡ true → ranges_with k after 0 r.trees ≡ 1
  -- "and no range has more than 127 nodes"
  pub no_range_over_127_nodes : (j : ℕ) → j < r.trees → RangeNumbers r.nodes (tree_no after j)
  -- "a walk over that build is refused only where document 01 gives it 2": where the output is shorter than the item count, and there always
  pub refused_exactly_where_the_output_is_short : w.refusal ≡ cond (ltb (length out) (count_for th e.number r.present)) 2 0
  -- "Suppose all present boxes are finite with min at most max, no coordinate exceeds 2^100 in size, and each axis's half extent q is 0 or at least
  -- 2^-100 [..] Otherwise it hands out every present item whose box meets the query". A query with a NaN meets no box: nothing is asked of the query.
  pub every_item_that_meets : Ordinary e → w.refusal ≡ 0 → (p : ℕ) → Memᴰ p e.places → meets_box (box_values (e.at p)) query ≡ true
      → occurrences p (items_at th after (handed_out out' w)) ≡ 1
  -- "no item twice" (and only present ones)
  pub no_item_twice : (p : ℕ) → occurrences p (items_at th after (handed_out out' w)) ≤ 1
  pub only_present_items : (p : ℕ) → occurrences p (items_at th after (handed_out out' w)) ≤ occurrences p e.places
  -- "and none from a leaf record that misses the query"
  pub none_from_a_leaf_that_misses : (i : ℕ) → Memᴰ i (handed_out out' w)
      → FromLeaf (query_of query r.scale.cen r.scale.inverse) r.nodes after i
  -- each is a position below the item count, so that above threshold 1 the order list has an item there
  pub positions_below_the_item_count : (i : ℕ) → Memᴰ i (handed_out out' w) → i < count_for th e.number r.present
  -- as many as the answer says, and the rest of the output is as it was
  pub as_many_as_it_says : length (handed_out out' w) ≡ w.handed
  pub rest_as_it_was : out' ≡ over (handed_out out' w) out
  -- "Its result's count of records read is at most the build's nodes plus its trees."
  pub reads_at_most_nodes_plus_trees : w.reads ≤ r.nodes + r.trees
