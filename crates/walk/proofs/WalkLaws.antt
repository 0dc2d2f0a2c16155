-- A walk as a whole: each reading uses up some of what `left` allows, so a walk ends, and goes on from each state as a reading and the rest.
use Rattle.std.specs.Prelude.{◌≡◌, ℕ, zero, suc, ◌+◌, ◌-◌, ◌*◌, ◌<◌, ◌≤◌, max, Bool, true, false, cond, ◌||◌, eqb, ltb, ◌++◌, length, pos, is_ok, Ok, Err}
use mathlib.Core.Path.{refl, sym, ap, subst, ◌∙◌}
use native.Mathlib.Omega.{arith}
use lib.Signed.{lt_z}
use lib.ListN.{length-append}
use borrow.Author.Tests.{ltb-true, ltb-false}
use Rattle.base.proofs.NumberLaws.{length_up}
use Rattle.base.proofs.Truth.{neither}
use Rattle.records.specs.Records.{node_at, tree_at}
use Rattle.records.specs.declared.BvhNode.{BvhNode}
use Rattle.records.specs.declared.BvhTree.{BvhTree}
use Rattle.walk_steps.specs.Boxes.{meets}
use Rattle.walk_steps.specs.Refusals.{whole, bad_range, bad_node}
use Rattle.walk_steps.specs.Step.{Lent, Turn, quiet, refused, entering, passing, at_tree, stride_of, onward, handed_of, handing, at_node, more, step_of}
use Rattle.walk.specs.Walks.{joined, read_on, range_nodes, allowance, left, walk_from}
use Rattle.walk_steps.specs.declared.refusals.WalkRefusal.{WalkRefusal}
use Rattle.walk_steps.specs.declared.refusals.WalkRefusal.TheVariants.{TreeRange, NodeRecord, TooManyHandedOut}
use Rattle.walk_steps.specs.declared.state.WalkState.{WalkState}
use Rattle.walk_steps.proofs.StepLaws.{tree_refused, tree_entered, tree_passed, node_refused, node_handing, node_onward}
use Rattle.walk_steps.proofs.StepLaws.{step_node, step_tree, more_going, more_tree}

-- the records that a state is at
abbrev pub tree_of : Lent → WalkState → BvhTree
tree_of l s = tree_at l.trees (16 * s.tree)

abbrev pub node_of : Lent → WalkState → BvhNode
node_of l s = node_at l.nodes (16 * s.at)

-- What a reading from s leads to, by cases.
pub data Reading (l : Lent) (s : WalkState) : Turn → Type 0 where
  refused_tree : s.last ≤ s.at → bad_range l.sizes.nodes (tree_of l s) ≡ true → Reading l s (quiet (refused TreeRange s))
  entered_tree : s.last ≤ s.at → bad_range l.sizes.nodes (tree_of l s) ≡ false
      → meets l.query (tree_of l s).min (tree_of l s).max ≡ true → Reading l s (quiet (entering (tree_of l s) s))
  passed_tree : s.last ≤ s.at → bad_range l.sizes.nodes (tree_of l s) ≡ false
      → meets l.query (tree_of l s).min (tree_of l s).max ≡ false → Reading l s (quiet (passing s))
  refused_node : s.at < s.last → bad_node s.at s.last l.sizes.items (node_of l s) ≡ true → Reading l s (quiet (refused NodeRecord s))
  met_node : s.at < s.last → bad_node s.at s.last l.sizes.items (node_of l s) ≡ false
      → meets l.query (node_of l s).min (node_of l s).max ≡ true → Reading l s (handing l.sizes.items (node_of l s) s)
  missed_node : s.at < s.last → bad_node s.at s.last l.sizes.items (node_of l s) ≡ false
      → meets l.query (node_of l s).min (node_of l s).max ≡ false → Reading l s (quiet (onward (stride_of (node_of l s)) s))

module _ (l : Lent) (s : WalkState) where
  abbrev t : BvhTree
  t = tree_of l s

  abbrev n : BvhNode
  n = node_of l s

  tree_reading : s.last ≤ s.at → (b m : Bool) → bad_range l.sizes.nodes t ≡ b → meets l.query t.min t.max ≡ m
      → Reading l s (quiet (at_tree l.query l.sizes.nodes t s))
  tree_reading h true m e k = subst (λ (u : WalkState). Reading l s (quiet u)) (sym (tree_refused l.query l.sizes.nodes t s e)) (refused_tree h e)
  tree_reading h false true e k = subst (λ (u : WalkState). Reading l s (quiet u)) (sym (tree_entered l.query l.sizes.nodes t s e k)) (entered_tree h e k)
  tree_reading h false false e k = subst (λ (u : WalkState). Reading l s (quiet u)) (sym (tree_passed l.query l.sizes.nodes t s e k)) (passed_tree h e k)

  node_reading : s.at < s.last → (b m : Bool) → bad_node s.at s.last l.sizes.items n ≡ b → meets l.query n.min n.max ≡ m
      → Reading l s (at_node l.query l.sizes.items n s)
  node_reading h true m e k = subst (Reading l s) (sym (node_refused l.query l.sizes.items n s e)) (refused_node h e)
  node_reading h false true e k = subst (Reading l s) (sym (node_handing l.query l.sizes.items n s e k)) (met_node h e k)
  node_reading h false false e k = subst (Reading l s) (sym (node_onward l.query l.sizes.items n s e k)) (missed_node h e k)

  pub reading : Reading l s (step_of l s)
  reading = go (ltb s.at s.last) refl
    where
      go : (b : Bool) → ltb s.at s.last ≡ b → Reading l s (step_of l s)
      go true e =
          let h = ltb-true s.at s.last e in
          subst (Reading l s) (sym (step_node l s h)) (node_reading h _ _ refl refl)
      go false e =
          let h = ltb-false s.at s.last e in
          subst (Reading l s) (sym (step_tree l s h)) (tree_reading h _ _ refl refl)

-- ---- a range that is not refused
pub range_within : (nodes : ℕ) (t : BvhTree) → bad_range nodes t ≡ false → whole t.node_index2 ≤ nodes
unfolding bad_range
range_within nodes t e =
    ltb-false nodes (whole t.node_index2)
    (neither (lt_z t.node_index1 (pos 0) || lt_z t.node_index2 t.node_index1) (ltb nodes (whole t.node_index2)) e).1

pub range_nodes_lem : (l : Lent) (k : ℕ) → bad_range l.sizes.nodes (tree_at l.trees (16 * k)) ≡ false
    → range_nodes l k ≡ whole (tree_at l.trees (16 * k)).node_index2 - whole (tree_at l.trees (16 * k)).node_index1
unfolding range_nodes
range_nodes_lem l k e = rw e

-- a node that misses is passed, whatever its record
pub stride_positive : (n : BvhNode) → 1 ≤ stride_of n
stride_positive n = go (eqb (whole n.item_count) 0)
  where
    go : (b : Bool) → 1 ≤ cond b (max (whole n.item_id) 1) 1
    go true = omega arith
    go false = omega arith

-- ---- what is left
allowance_next : (l : Lent) (k n : ℕ) → k < n → allowance l k (n - k) ≡ 1 + range_nodes l k + allowance l (k + 1) (n - (k + 1))
allowance_next l k n h =
    let e : n - k ≡ suc (n - (k + 1)) = omega arith in
    ap (allowance l k) e

stopped_or_on : (b : Bool) (x : ℕ) → cond (is_ok {T = Unit {0}} {E = WalkRefusal} (cond b (Err TooManyHandedOut) (Ok tt))) x 0 ≤ x
stopped_or_on true x = omega arith
stopped_or_on false x = omega arith

handing_left : (l : Lent) (items : ℕ) (n : BvhNode) (s : WalkState)
    → left l (handing items n s).state ≤ s.last - (s.at + 1) + allowance l s.tree (l.sizes.trees - s.tree)
unfolding handing
handing_left l items n s = stopped_or_on (ltb (items - s.handed) (whole n.item_count)) _

module _ (l : Lent) (s : WalkState) (g : more l.sizes.trees s ≡ true) where
  left_going : left l s ≡ s.last - s.at + allowance l s.tree (l.sizes.trees - s.tree)
  left_going = rw (more_going l.sizes.trees s g)

  pub left_some : 0 < left l s
  left_some = go (ltb s.at s.last) refl
    where
      go : (b : Bool) → ltb s.at s.last ≡ b → 0 < left l s
      go true e = omega (arith, left_going, ltb-true s.at s.last e)
      go false e =
          let k = more_tree l.sizes.trees s g (ltb-false s.at s.last e) in
          omega (arith, left_going, allowance_next l s.tree l.sizes.trees k)

  falls_by : {u : Turn} → Reading l s u → left l u.state < left l s
  falls_by (refused_tree h e) = left_some
  falls_by (entered_tree h e m) =
      let k = more_tree l.sizes.trees s g h in
      omega (arith, left_going, allowance_next l s.tree l.sizes.trees k, range_nodes_lem l s.tree e)
  falls_by (passed_tree h e m) =
      let k = more_tree l.sizes.trees s g h in
      omega (arith, left_going, allowance_next l s.tree l.sizes.trees k)
  falls_by (refused_node h e) = left_some
  falls_by (met_node h e m) = omega (arith, left_going, handing_left l l.sizes.items (node_of l s) s)
  falls_by (missed_node h e m) = omega (arith, left_going, stride_positive (node_of l s))

  -- each reading uses up at least one
  pub step_falls : left l (step_of l s).state < left l s
  step_falls = falls_by (reading l s)

-- ---- reading on
read_none : (k : ℕ) (l : Lent) (s : WalkState) → more l.sizes.trees s ≡ false → read_on k l s ≡ quiet s
unfolding read_on
read_none zero l s e = refl
read_none (suc k) l s e = rw (e, read_on)

read_more : (k : ℕ) (l : Lent) (s : WalkState) → more l.sizes.trees s ≡ true → read_on (suc k) l s ≡ joined (step_of l s) (read_on k l (step_of l s).state)
unfolding read_on
read_more k l s e = rw (e, read_on)

pub none_left : (l : Lent) (s : WalkState) → left l s ≤ 0 → more l.sizes.trees s ≡ false
none_left l s h = go (more l.sizes.trees s) refl
  where
    go : (b : Bool) → more l.sizes.trees s ≡ b → b ≡ false
    go true e = absurd (let z = left_some l s e in let o : ⊥ = omega arith in o)
    go false e = refl

same_rest : (l : Lent) (k m : ℕ) (s : WalkState)
    → (left l (step_of l s).state ≤ k → left l (step_of l s).state ≤ m → read_on k l (step_of l s).state ≡ read_on m l (step_of l s).state)
    → left l s ≤ suc k → left l s ≤ suc m → read_on (suc k) l s ≡ read_on (suc m) l s
same_rest l k m s ih h j = go (more l.sizes.trees s) refl
  where
    go : (b : Bool) → more l.sizes.trees s ≡ b → read_on (suc k) l s ≡ read_on (suc m) l s
    go true e =
        let f = step_falls l s e in
        read_more k l s e ∙ ap (joined (step_of l s)) (ih (omega arith) (omega arith)) ∙ sym (read_more m l s e)
    go false e = read_none (suc k) l s e ∙ sym (read_none (suc m) l s e)

enough : (l : Lent) (k m : ℕ) (s : WalkState) → left l s ≤ k → left l s ≤ m → read_on k l s ≡ read_on m l s
enough l zero m s h j =
    let e = none_left l s h in
    read_none 0 l s e ∙ sym (read_none m l s e)
enough l (suc k) zero s h j =
    let e = none_left l s j in
    read_none (suc k) l s e ∙ sym (read_none 0 l s e)
enough l (suc k) (suc m) s h j = same_rest l k m s (λ f g. enough l k m (step_of l s).state f g) h j

-- As many readings as may be left are enough: more make the same walk.
pub read_enough : (l : Lent) (k : ℕ) (s : WalkState) → left l s ≤ k → read_on k l s ≡ walk_from l s
unfolding walk_from
read_enough l k s h = enough l k (left l s) s h (omega arith)

-- A walk is a reading and the rest of the walk, or nothing where no record is left.
pub walk_more : (l : Lent) (s : WalkState) → more l.sizes.trees s ≡ true → walk_from l s ≡ joined (step_of l s) (walk_from l (step_of l s).state)
walk_more l s e =
    let f = step_falls l s e in
    let k = left l s - 1 in
    let whole : read_on (suc k) l s ≡ walk_from l s = read_enough l (suc k) s (omega arith) in
    sym whole ∙ read_more k l s e ∙ ap (joined (step_of l s)) (read_enough l k (step_of l s).state (omega arith))

pub walk_none : (l : Lent) (s : WalkState) → more l.sizes.trees s ≡ false → walk_from l s ≡ quiet s
unfolding walk_from
walk_none l s e = read_none (left l s) l s e

-- What holds where no record is left, and of a reading and the rest where it holds of the rest, holds of every walk.
module _ (l : Lent) (P : WalkState → Turn → Type 0)
    (none : (s : WalkState) → more l.sizes.trees s ≡ false → P s (quiet s))
    (turn : (s : WalkState) (u : Turn) → more l.sizes.trees s ≡ true → P (step_of l s).state u → P s (joined (step_of l s) u)) where
  one_turn : (k : ℕ) (s : WalkState) → (left l (step_of l s).state ≤ k → P (step_of l s).state (walk_from l (step_of l s).state))
      → left l s ≤ suc k → P s (walk_from l s)
  one_turn k s ih h = go (more l.sizes.trees s) refl
    where
      go : (b : Bool) → more l.sizes.trees s ≡ b → P s (walk_from l s)
      go true e =
          let f = step_falls l s e in
          rw (walk_more l s e) (turn s (walk_from l (step_of l s).state) e (ih (omega arith)))
      go false e = rw (walk_none l s e) (none s e)

  within : (k : ℕ) (s : WalkState) → left l s ≤ k → P s (walk_from l s)
  within zero s h = let e = none_left l s h in rw (walk_none l s e) (none s e)
  within (suc k) s h = one_turn k s (λ f. within k (step_of l s).state f) h

  pub walk_ind : (s : WalkState) → P s (walk_from l s)
  walk_ind s = within (left l s) s (omega arith)

-- A walk ends: no record is left.
pub walk_ends : (l : Lent) (s : WalkState) → more l.sizes.trees (walk_from l s).state ≡ false
walk_ends l s = walk_ind l (λ (s : WalkState) (u : Turn). more l.sizes.trees u.state ≡ false) (λ s e. e) (λ s u e h. h) s

-- ---- a reading is counted, whatever the record
module _ (l : Lent) (s : WalkState) where
  reads_by : {u : Turn} → Reading l s u → u.state.reads ≡ s.reads + 1
  reads_by (refused_tree h e) = refl
  reads_by (entered_tree h e m) = refl
  reads_by (passed_tree h e m) = refl
  reads_by (refused_node h e) = refl
  reads_by (met_node h e m) = unfold handing in refl
  reads_by (missed_node h e m) = refl

  pub step_reads : (step_of l s).state.reads ≡ s.reads + 1
  step_reads = reads_by (reading l s)

  handed_by : {u : Turn} → Reading l s u → u.state.handed ≡ s.handed + length u.given
  handed_by (refused_tree h e) = omega arith
  handed_by (entered_tree h e m) = omega arith
  handed_by (passed_tree h e m) = omega arith
  handed_by (refused_node h e) = omega arith
  handed_by (met_node h e m) =
      let count = length_up (whole (node_of l s).item_id) (handed_of l.sizes.items (node_of l s) s) in
      unfold handing in ap (λ (k : ℕ). s.handed + k) (sym count)
  handed_by (missed_node h e m) = omega arith

  -- so are the positions handed out
  pub step_handed : (step_of l s).state.handed ≡ s.handed + length (step_of l s).given
  step_handed = handed_by (reading l s)

  handed_within_by : {u : Turn} → Reading l s u → s.handed ≤ l.sizes.items → u.state.handed ≤ l.sizes.items
  handed_within_by (refused_tree h e) k = k
  handed_within_by (entered_tree h e m) k = k
  handed_within_by (passed_tree h e m) k = k
  handed_within_by (refused_node h e) k = k
  handed_within_by (met_node h e m) k = unfold handing in omega arith
  handed_within_by (missed_node h e m) k = k

  -- no more than there are items
  pub step_handed_within : s.handed ≤ l.sizes.items → (step_of l s).state.handed ≤ l.sizes.items
  step_handed_within k = handed_within_by (reading l s) k

  last_within_by : {u : Turn} → Reading l s u → s.last ≤ l.sizes.nodes → u.state.last ≤ l.sizes.nodes
  last_within_by (refused_tree h e) k = k
  last_within_by (entered_tree h e m) k = range_within l.sizes.nodes (tree_of l s) e
  last_within_by (passed_tree h e m) k = k
  last_within_by (refused_node h e) k = k
  last_within_by (met_node h e m) k = unfold handing in k
  last_within_by (missed_node h e m) k = k

  -- the range lies within the nodes
  pub step_last_within : s.last ≤ l.sizes.nodes → (step_of l s).state.last ≤ l.sizes.nodes
  step_last_within k = last_within_by (reading l s) k

-- ---- the counts of a walk
-- A walk reads no more records than its trees allow, each one and its range's nodes, whatever the records hold.
pub walk_reads : (l : Lent) (s : WalkState) → (walk_from l s).state.reads ≤ s.reads + left l s
walk_reads l s = walk_ind l (λ (s : WalkState) (u : Turn). u.state.reads ≤ s.reads + left l s) none turn s
  where
    none : (s : WalkState) → more l.sizes.trees s ≡ false → s.reads ≤ s.reads + left l s
    none s e = omega arith

    turn : (s : WalkState) (u : Turn) → more l.sizes.trees s ≡ true
        → u.state.reads ≤ (step_of l s).state.reads + left l (step_of l s).state → u.state.reads ≤ s.reads + left l s
    turn s u e h = omega (arith, step_falls l s e, step_reads l s)

-- Its count of positions is theirs.
pub walk_handed : (l : Lent) (s : WalkState) → (walk_from l s).state.handed ≡ s.handed + length (walk_from l s).given
walk_handed l s = walk_ind l (λ (s : WalkState) (u : Turn). u.state.handed ≡ s.handed + length u.given) none turn s
  where
    none : (s : WalkState) → more l.sizes.trees s ≡ false → s.handed ≡ s.handed + 0
    none s e = omega arith

    turn : (s : WalkState) (u : Turn) → more l.sizes.trees s ≡ true
        → u.state.handed ≡ (step_of l s).state.handed + length u.given → u.state.handed ≡ s.handed + length ((step_of l s).given ++ u.given)
    turn s u e h = omega (arith, step_handed l s, length-append (step_of l s).given u.given)

-- It hands out no more than there are items.
pub walk_within : (l : Lent) (s : WalkState) → s.handed ≤ l.sizes.items → (walk_from l s).state.handed ≤ l.sizes.items
walk_within l s =
    walk_ind l (λ (s : WalkState) (u : Turn). s.handed ≤ l.sizes.items → u.state.handed ≤ l.sizes.items)
    (λ s e h. h) (λ s u e f h. f (step_handed_within l s h)) s

-- ---- what trees allow, by the number of nodes
range_few : (l : Lent) (k : ℕ) → range_nodes l k ≤ l.sizes.nodes
range_few l k = go (bad_range l.sizes.nodes (tree_at l.trees (16 * k))) refl
  where
    go : (b : Bool) → bad_range l.sizes.nodes (tree_at l.trees (16 * k)) ≡ b → range_nodes l k ≤ l.sizes.nodes
    go true e = unfold range_nodes in rw e (omega arith)
    go false e =
        let h = range_within l.sizes.nodes (tree_at l.trees (16 * k)) e in
        rw (range_nodes_lem l k e) (omega arith)

pub allowance_few : (l : Lent) (k n : ℕ) → l.sizes.nodes ≤ 65535 → allowance l k n ≤ n * 65536
allowance_few l k zero h = omega arith
allowance_few l k (suc n) h =
    let i = allowance_few l (k + 1) n h in
    omega (arith, range_few l k)
