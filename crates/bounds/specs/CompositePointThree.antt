-- Point 3 of the request, of a call of `bounds_composite_tree` and a call of `bounds_walk` over what it wrote. Definitions only.
-- It speaks of what a caller holds: the children's words, the two answers, the node and tree bytes, and the walk's output before and after. A child is
-- present by its mark (`is_present`), and its box is the one through its transform (`computed_box`), as `bounds_computed_box` answers it. Threshold 1: a
-- position is a child's place in the list, in leaf records and in the walk's output alike.
use Rattle.std.specs.Prelude.{ℕ, ◌+◌, ◌≤◌, ◌<◌, true, cond, ◌≡◌, ltb, length}
use mathlib.Core.List.{List, Memᴰ}
use Rattle.base.specs.Lists.{occurrences, over}
use Rattle.math.specs.declared.aabb.Aabb.{Aabb}
use Rattle.bvh.specs.Entry.{Outputs}
use Rattle.composite.specs.Children.{is_present, computed_box}
use Rattle.composite.specs.Trees.{child_entries}
use Rattle.walk_steps.specs.Boxes.{query_of, meets_box}
use Rattle.walk.specs.Walks.{walk_of}
use Rattle.tree.specs.Pair.{Ordinary}
use Rattle.tree.specs.WellFormed.{node_no, tree_no, items_held, is_leaf, ranges_with, NodeNumbers, RangeNumbers, FromLeaf}
use Rattle.answers.specs.declared.trees.BuildAnswer.{BuildAnswer}
use Rattle.answers.specs.declared.walks.WalkAnswer.{WalkAnswer}
use Rattle.answers.specs.WalkAnswers.{sizes_of, WalkAnswered}
use Rattle.bounds.specs.PointThree.{handed_out}

-- Rule P3, of a composite of n children: the contract of `bounds_walk` where it is given the tree's node and tree bytes unchanged, its cen and inverse,
-- its node and tree counts without padding, and as item count the children, absent ones included.
abbrev pub WalkedOverChildren : ℕ → Aabb → BuildAnswer → Outputs → List ℕ → List ℕ → WalkAnswer → Type 0
WalkedOverChildren n query r after out out' w =
    WalkAnswered
    (walk_of query r.scale.cen r.scale.inverse (sizes_of r.nodes r.trees n) after.nodes after.trees (length out))
    out out' w

-- Rules P4 and P5 (request, point 3): the composite of the n children in the words ws was answered r with refusal 0 and a tree, which left `after`; the
-- walk over it answered w, and its output is out', which was out. Beside each field stand the request's words; k is a child's place in the list.
pub record CompositePointThree (n : ℕ) (ws : List ℕ) (query : Aabb) (r : BuildAnswer) (after : Outputs) (out out' : List ℕ) (w : WalkAnswer)
    : Type 0 where
  -- "Whatever boxes are listed, NaN boxes included: in a build that isn't refused each present item lies in exactly one leaf" (and no other child in any)
  pub each_present_child_in_exactly_one_leaf : (k : ℕ) → k < n → is_present ws k ≡ true → occurrences k (items_held 1 after 0 r.nodes) ≡ 1
  pub no_other_child_in_a_leaf : (k : ℕ) → 0 < occurrences k (items_held 1 after 0 r.nodes) → (k < n) × (is_present ws k ≡ true)
  -- "no leaf holds more items than the threshold", which is 1
  pub no_leaf_over_one : (i : ℕ) → i < r.nodes → NodeNumbers 1 n (node_no after i)
  -- "each leaf lies in exactly one tree range"
  pub each_leaf_in_exactly_one_range : (i : ℕ) → i < r.nodes → is_leaf (node_no after i) ≡ true → ranges_with i after 0 r.trees ≡ 1
  -- "and no range has more than 127 nodes"
  pub no_range_over_127_nodes : (j : ℕ) → j < r.trees → RangeNumbers r.nodes (tree_no after j)
  -- "a walk over that build is refused only where document 01 gives it 2": where the output is shorter than the children are many, and there always
  pub refused_exactly_where_the_output_is_short : w.refusal ≡ cond (ltb (length out) n) 2 0
  -- "Suppose all present boxes are finite with min at most max, no coordinate exceeds 2^100 in size, and each axis's half extent q is 0 or at least
  -- 2^-100 [..] Otherwise it hands out every present item whose box meets the query": the boxes are the computed ones, in the premises (`child_entries`) too.
  -- A query with a NaN meets no box: nothing is asked of the query.
  pub every_child_that_meets : Ordinary (child_entries n ws) → w.refusal ≡ 0 → (k : ℕ) → k < n → is_present ws k ≡ true
      → meets_box (computed_box ws k) query ≡ true → occurrences k (handed_out out' w) ≡ 1
  -- "no item twice" (and only present children)
  pub no_child_twice : (k : ℕ) → occurrences k (handed_out out' w) ≤ 1
  pub only_present_children : (k : ℕ) → 0 < occurrences k (handed_out out' w) → (k < n) × (is_present ws k ≡ true)
  -- "and none from a leaf record that misses the query"
  pub none_from_a_leaf_that_misses : (k : ℕ) → Memᴰ k (handed_out out' w)
      → FromLeaf (query_of query r.scale.cen r.scale.inverse) r.nodes after k
  -- as many as the answer says, and the rest of the output is as it was
  pub as_many_as_it_says : length (handed_out out' w) ≡ w.handed
  pub rest_as_it_was : out' ≡ over (handed_out out' w) out
  -- "Its result's count of records read is at most the build's nodes plus its trees."
  pub reads_at_most_nodes_plus_trees : w.reads ≤ r.nodes + r.trees
