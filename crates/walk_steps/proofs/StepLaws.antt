-- What a reading leads to, case by case.
use Rattle.std.specs.Prelude.{Ok, is_ok}
use mathlib.Core.Path.{◌≡◌}
use mathlib.Core.Bool.{and-eq-true_iff, true, false, ◌||◌}
use Prim.Native.Nat.{ℕ, ◌+◌, ◌*◌, ◌≤◌, ◌<◌}
use lib.Dec.{ltb}
use borrow.Author.Tests.{lt-ltb, le-ltb, ltb-true}
use Rattle.base.proofs.Truth.{either_second}
use Rattle.records.specs.Records.{node_at, tree_at}
use Rattle.records.specs.declared.BvhNode.{BvhNode}
use Rattle.records.specs.declared.BvhTree.{BvhTree}
use Rattle.walk_steps.specs.Boxes.{meets}
use Rattle.walk_steps.specs.Refusals.{whole, bad_range, bad_node}
use Rattle.walk_steps.specs.Step.{Lent, quiet, refused, entering, passing, at_tree, stride_of, onward, handing, at_node, more, step_of}
use Rattle.walk_steps.specs.declared.boxes.Query.{Query}
use Rattle.walk_steps.specs.declared.refusals.WalkRefusal.TheVariants.{TreeRange, NodeRecord}
use Rattle.walk_steps.specs.declared.state.WalkState.{WalkState}

module _ (q : Query) (nodes : ℕ) (t : BvhTree) (s : WalkState) where
  pub tree_refused : bad_range nodes t ≡ true → at_tree q nodes t s ≡ refused TreeRange s
  unfolding at_tree
  tree_refused b = rw b

  pub tree_entered : bad_range nodes t ≡ false → meets q t.min t.max ≡ true → at_tree q nodes t s ≡ entering t s
  unfolding at_tree
  tree_entered b m = rw (b, m)

  pub tree_passed : bad_range nodes t ≡ false → meets q t.min t.max ≡ false → at_tree q nodes t s ≡ passing s
  unfolding at_tree
  tree_passed b m = rw (b, m)

-- the state in a range, by the numbers read from its record
pub entering_by : (t : BvhTree) (s : WalkState) (first last : ℕ) → first ≡ whole t.node_index1 → last ≡ whole t.node_index2
    → ◌≡◌ {A = WalkState} (record { tree = s.tree + 1; at = first; last = last; reads = s.reads + 1; handed = s.handed; status = Ok tt }) (entering t s)
entering_by t s first last e k = λ i. record { tree = s.tree + 1; at = e i; last = k i; reads = s.reads + 1; handed = s.handed; status = Ok tt }

module _ (q : Query) (items : ℕ) (n : BvhNode) (s : WalkState) where
  pub node_refused : bad_node s.at s.last items n ≡ true → at_node q items n s ≡ quiet (refused NodeRecord s)
  unfolding at_node
  node_refused b = rw b

  pub node_handing : bad_node s.at s.last items n ≡ false → meets q n.min n.max ≡ true → at_node q items n s ≡ handing items n s
  unfolding at_node
  node_handing b m = rw (b, m)

  pub node_onward : bad_node s.at s.last items n ≡ false → meets q n.min n.max ≡ false → at_node q items n s ≡ quiet (onward (stride_of n) s)
  unfolding at_node
  node_onward b m = rw (b, m)

module _ (l : Lent) (s : WalkState) where
  pub step_node : s.at < s.last → step_of l s ≡ at_node l.query l.sizes.items (node_at l.nodes (16 * s.at)) s
  unfolding step_of
  step_node h = rw (lt-ltb s.at s.last h)

  pub step_tree : s.last ≤ s.at → step_of l s ≡ quiet (at_tree l.query l.sizes.nodes (tree_at l.trees (16 * s.tree)) s)
  unfolding step_of
  step_tree h = rw (le-ltb s.at s.last h)

-- ---- a record is left to read
pub more_going : (trees : ℕ) (s : WalkState) → more trees s ≡ true → is_ok s.status ≡ true
more_going trees s h = ((and-eq-true_iff (is_ok s.status) (ltb s.at s.last || ltb s.tree trees)).0 h).0

pub more_tree : (trees : ℕ) (s : WalkState) → more trees s ≡ true → s.last ≤ s.at → s.tree < trees
more_tree trees s h k =
    let e = ((and-eq-true_iff (is_ok s.status) (ltb s.at s.last || ltb s.tree trees)).0 h).1 in
    ltb-true s.tree trees (either_second (ltb s.at s.last) (ltb s.tree trees) e (le-ltb s.at s.last k))
