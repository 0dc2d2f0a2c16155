-- Point 3 of the request, of a composite's tree and a walk over its records. Definitions only.
use Rattle.std.specs.Prelude.{◌≡◌, ℕ, ◌+◌, ◌<◌, ◌≤◌, true, cond, List, length, take, nat_lt}
use mathlib.Core.List.{Memᴰ}
use Rattle.base.specs.Lists.{occurrences, over}
use Rattle.math.specs.declared.aabb.Aabb.{Aabb}
use Rattle.bvh.specs.Entry.{Outputs}
use Rattle.bvh.specs.declared.slices.BuiltTree.{BuiltTree}
use Rattle.walk_steps.specs.Boxes.{query_of, meets_box}
use Rattle.walk.specs.Walks.{Walk, walk_of, number_of, counts_of, Promise}
use Rattle.tree.specs.Pair.{Ordinary}
use Rattle.tree.specs.WellFormed.{WellFormed, FromLeaf}
use Rattle.composite.specs.Children.{is_present, computed_box}
use Rattle.composite.specs.Trees.{child_entries}

-- Rule P3, of a composite of n children whose tree b was built into `after`: the contract of a walk that is given its node and tree bytes unchanged, its
-- cen and inverse, its node and tree counts without padding, and as item count the children, absent ones included.
abbrev pub WalkedOver : ℕ → Aabb → BuiltTree → Outputs → List ℕ → List ℕ → Walk → Type 0
WalkedOver n query b after out out' w =
    Promise
    (walk_of query b.scale.cen b.scale.inverse (record { nodes = b.nodes; trees = b.trees; items = n }) after.nodes after.trees (length out))
    out out' w

-- the children that a walk handed out, by their places in the list: the first places of its output
abbrev pub handed_out : List ℕ → Walk → List ℕ
handed_out out' w = take (counts_of w).handed out'

-- Rules P4 and P5 (request, point 3) for the tree of a composite. At threshold 1 a position is a child's place in the list.
pub record Delivers (n : ℕ) (ws : List ℕ) (query : Aabb) (b : BuiltTree) (after : Outputs) (out out' : List ℕ) (w : Walk) : Type 0 where
  -- whatever the boxes: each present child in exactly one leaf, no leaf over one, each leaf in exactly one range, no range over 127 nodes
  pub well_formed : WellFormed (child_entries n ws) 1 b after
  -- the walk is refused with 2 exactly where the output is shorter than the children are many, and with nothing else
  pub refused_exactly_where_the_output_is_short : number_of w ≡ cond (nat_lt (length out) n) 2 0
  -- otherwise, where the computed boxes meet the premises, it hands out every present child whose computed box meets the query
  pub every_child_that_meets : Ordinary (child_entries n ws) → number_of w ≡ 0 → (k : ℕ) → k < n → is_present ws k ≡ true
      → meets_box (computed_box ws k) query ≡ true → occurrences k (handed_out out' w) ≡ 1
  -- none twice, and only present children
  pub no_child_twice : (k : ℕ) → occurrences k (handed_out out' w) ≤ 1
  pub only_present_children : (k : ℕ) → 0 < occurrences k (handed_out out' w) → (k < n) × (is_present ws k ≡ true)
  -- and none from a leaf record that misses the query
  pub none_from_a_leaf_that_misses : (k : ℕ) → Memᴰ k (handed_out out' w)
      → FromLeaf (query_of query b.scale.cen b.scale.inverse) b.nodes after k
  -- as many as the answer says, and the rest of the output is as it was
  pub as_many_as_it_says : length (handed_out out' w) ≡ (counts_of w).handed
  pub rest_as_it_was : out' ≡ over (handed_out out' w) out
  -- the records read are at most the nodes and the trees
  pub reads_at_most_nodes_plus_trees : (counts_of w).reads ≤ b.nodes + b.trees
