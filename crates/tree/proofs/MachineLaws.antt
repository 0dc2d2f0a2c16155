-- The walk over the records of a tree is the visit of the tree: from the number of a node's record on, the machine hands out what the visit does,
-- reads as much, and stands behind the node's last record. By induction over the tree, and over its parts, at every limit from 1 on.
use Rattle.std.specs.Prelude.{◌≡◌, ℕ, ◌+◌, ◌-◌, ◌*◌, ◌<◌, ◌≤◌, min, max, Bool, true, false, cond, ◌||◌, eqb, ltb, List, [], ◌∷◌, ◌++◌, map, length, take, drop, pos, Ok}
use native.Mathlib.Omega.{arith}
use native.Mathlib.Nat.{add-zero, zero-add}
use mathlib.Core.List.Memᴰ
use mathlib.Core.List.{map-append, append_assoc, append-nil, Memᴰ}
use mathlib.Core.Path.{refl, sym, ap, ◌∙◌, subst}
use borrow.Author.Tests.{lt-ltb, le-ltb, eq-eqb, ne_eqb, eqb-true, eqb-false}
use lib.ListN.{length-append, length-map, take-append-drop}
use lib.Seq.{drop_at, drop-drop}
use lib.Signed.{lt_z}
use Rattle.base.proofs.NumberLaws.{length_up}
use Rattle.base.specs.Lists.{up_from}
use Rattle.records.specs.declared.BvhNode.{BvhNode}
use Rattle.records.specs.declared.BvhTree.{BvhTree}
use Rattle.records.specs.declared.scale.Scale.{Scale}
use Rattle.records.specs.Records.{tree_at}
use Rattle.entries.specs.declared.boxes.BoxWords.{BoxWords}
use Rattle.rows.specs.Steps.Decode.{Small}
use Rattle.rows.specs.Output.{id_of, node_of, nodes_bytes, tree_record, trees_bytes}
use Rattle.rows.specs.Ranges.{Range, Subtree, parts, range_of, ranges}
use Rattle.rows.specs.Rows.{Row, rows}
use Rattle.rows.specs.Tree.{Node, leaf, inner, box_of, leaf_order, size}
use Rattle.rows.proofs.RangeLaws.{size_some, parts_induction}
use Rattle.rows.proofs.TreeLaws.{length_rows}
use Rattle.walk_steps.specs.Refusals.{bad_range, bad_node}
use Rattle.walk_steps.specs.Step.{Lent, Turn, more, step_of, at_node, at_tree, handing, quiet, onward, passing, stride_of, started}
use Rattle.walk.specs.Walks.{joined, walk_from}
use Rattle.walk_steps.specs.declared.boxes.Query.{Query}
use Rattle.walk_steps.specs.declared.state.Sizes.{Sizes}
use Rattle.walk_steps.specs.declared.state.WalkState.{WalkState}
use Rattle.walk_steps.proofs.StepLaws.{step_node, step_tree, node_handing, node_onward, tree_entered, tree_passed}
use Rattle.walk.proofs.WalkLaws.{walk_more, walk_none}
use Rattle.tree.specs.Visit.{hit_by, visit, visit_reads, visit_parts, range_reads, part_reads}
use Rattle.tree.proofs.ReadLaws.{node_read, tree_read}
use Rattle.tree.proofs.VisitLaws.{visit_few, parts_few, visit_both, reads_append}

-- ---- on from a state

-- what was handed out before, and then a turn
abbrev pub behind : List ℕ → Turn → Turn
behind is t = record { state = t.state; given = is ++ t.given }

-- The walk from s hands out `is` and goes on from s'.
pub record Leads (l : Lent) (s : WalkState) (is : List ℕ) (s' : WalkState) : Type 0 where
  pub goes : walk_from l s ≡ behind is (walk_from l s')

pub leads_step : (l : Lent) (s s' : WalkState) (is : List ℕ) → more l.sizes.trees s ≡ true → step_of l s ≡ record { state = s'; given = is }
    → Leads l s is s'
leads_step l s s' is m e = record { goes = walk_more l s m ∙ ap (λ (t : Turn). joined t (walk_from l t.state)) e }

pub leads_then : (l : Lent) (s s' s'' : WalkState) (is js : List ℕ) → Leads l s is s' → Leads l s' js s'' → Leads l s (is ++ js) s''
leads_then l s s' s'' is js h k =
    let t = walk_from l s'' in
    let path : behind is (behind js t) ≡ behind (is ++ js) t = λ i. record { state = t.state; given = sym (append_assoc is js t.given) i } in
    record { goes = h.goes ∙ ap (behind is) k.goes ∙ path }

-- a state that goes on
abbrev pub node_state : ℕ → ℕ → ℕ → ℕ → ℕ → WalkState
node_state tree k last reads handed = record { tree = tree; at = k; last = last; reads = reads; handed = handed; status = Ok tt }

-- ---- one node record

module _ (sc : Scale) (th : ℕ) (order : List ℕ) (r : Row) where
  abbrev id : ℕ
  id = id_of th order r

  not_refused : (k last items : ℕ) → (r.count ≡ 0 → k + max id 1 ≤ last) → (0 < r.count → id + r.count ≤ items)
      → bad_node k last items (node_of sc th order r) ≡ false
  unfolding bad_node node_of
  not_refused k last items empty some = go (eqb r.count 0) refl
    where
      go : (b : Bool) → eqb r.count 0 ≡ b
          → (lt_z (pos r.count) (pos 0) || lt_z (pos id) (pos 0) || cond b (ltb last (k + max id 1)) (ltb items (id + r.count))) ≡ false
      go true e = rw (le-ltb r.count 0 (omega arith), le-ltb id 0 (omega arith), le-ltb last (k + max id 1) (empty (eqb-true r.count 0 e)))
      go false e =
          let n = eqb-false r.count 0 e in
          rw (le-ltb r.count 0 (omega arith), le-ltb id 0 (omega arith), le-ltb items (id + r.count) (some (omega arith)))

  stride_leaf : 0 < r.count → stride_of (node_of sc th order r) ≡ 1
  unfolding node_of
  stride_leaf h = rw (ne_eqb r.count 0 (λ e. omega arith))

  stride_empty : r.count ≡ 0 → stride_of (node_of sc th order r) ≡ max id 1
  unfolding node_of
  stride_empty e = rw (eq-eqb r.count 0 e)

  handed_all : (items tree k last reads handed : ℕ) → handed + r.count ≤ items
      → handing items (node_of sc th order r) (node_state tree k last reads handed)
      ≡ record { state = node_state tree (k + 1) last (reads + 1) (handed + r.count); given = up_from id r.count }
  unfolding handing node_of
  handed_all items tree k last reads handed h =
      let m : min r.count (items - handed) ≡ r.count = omega arith in
      rw (m, le-ltb (items - handed) r.count (omega arith))

-- ---- a tree's node records

-- An empty leaf stands first of all: its record then goes one node on.
abbrev pub Fit : ℕ → Node → Type 0
Fit lo (leaf b ps) = length ps ≡ 0 → lo ≡ 0
Fit lo (inner b l r) = Fit lo l × Fit (lo + length (leaf_order l)) r

-- What a walk over a build's records goes by.
pub record Written : Type 0 where
  pub query : Query
  pub sizes : Sizes
  pub scale : Scale
  pub threshold : ℕ
  pub order : List ℕ
  pub nodes : List Row
  pub trees : List Range
  pub after_nodes : List ℕ
  pub after_trees : List ℕ

abbrev pub lent : Written → Lent
lent w =
    record {
      query = w.query;
      sizes = w.sizes;
      nodes = nodes_bytes w.scale w.threshold w.order w.nodes ++ w.after_nodes;
      trees = trees_bytes w.scale w.trees ++ w.after_trees;
    }

-- A row's numbers fit its record, and its positions lie within the items.
pub record Sound (w : Written) (r : Row) : Type 0 where
  pub small : Small w.threshold w.order r
  pub inside : 0 < r.count → id_of w.threshold w.order r + r.count ≤ w.sizes.items

-- what stands at a number of a list is in the list
pub mem_drop : {A : Type 0} (l : List A) (k : ℕ) (x : A) (xs : List A) → drop k l ≡ x ∷ xs → Memᴰ x l
mem_drop l k x xs e =
    subst (Memᴰ x) (take-append-drop k l) (Memᴰ.append_right (take k l) (subst (Memᴰ x) (sym e) (Memᴰ.head refl)))

-- what follows the first of two lists that stand one behind the other
drop_second : {A : Type 0} (l : List A) (k n : ℕ) (xs ys rest : List A) → length xs ≡ n → drop k l ≡ (xs ++ ys) ++ rest
    → drop (k + n) l ≡ ys ++ rest
drop_second l k n xs ys rest long e =
    sym (drop-drop n k l) ∙ ap (drop n) (e ∙ append_assoc xs ys rest) ∙ drop_at xs (ys ++ rest) n long

module _ (w : Written) (sound : (r : Row) → Memᴰ r w.nodes → Sound w r) where
  abbrev l : Lent
  l = lent w

  abbrev hit : BoxWords → Bool
  hit = hit_by w.query w.scale

  abbrev id_in : Row → ℕ
  id_in r = id_of w.threshold w.order r

  abbrev record_of : Row → BvhNode
  record_of r = node_of w.scale w.threshold w.order r

  abbrev seen : ℕ → Node → List ℕ
  seen lo t = visit hit w.threshold w.order lo t

  -- the step at a row
  module _ (r : Row) (qs : List Row) (k tree last reads handed : ℕ) (here : drop k w.nodes ≡ r ∷ qs) (within : k < last)
      (empty : r.count ≡ 0 → k + max (id_in r) 1 ≤ last) where
    abbrev s : WalkState
    s = node_state tree k last reads handed

    ok : Sound w r
    ok = sound r (mem_drop w.nodes k r qs here)

    fine : bad_node k last w.sizes.items (record_of r) ≡ false
    fine = not_refused w.scale w.threshold w.order r k last w.sizes.items empty ok.inside

    reads_row : step_of l s ≡ at_node w.query w.sizes.items (record_of r) s
    reads_row =
        step_node l s within
        ∙ ap (λ (n : BvhNode). at_node w.query w.sizes.items n s)
        (node_read w.scale w.threshold w.order w.after_nodes w.nodes k r qs here ok.small)

    goes_on : more w.sizes.trees s ≡ true
    goes_on = rw (lt-ltb k last within)

    row_hit : hit r.box ≡ true → handed + r.count ≤ w.sizes.items
        → Leads l s (up_from (id_in r) r.count) (node_state tree (k + 1) last (reads + 1) (handed + r.count))
    unfolding node_of
    row_hit e h =
        leads_step l s (node_state tree (k + 1) last (reads + 1) (handed + r.count)) (up_from (id_in r) r.count) goes_on
        (reads_row ∙ node_handing _ _ _ _ fine e
        ∙ handed_all w.scale w.threshold w.order r w.sizes.items tree k last reads handed h)

    row_missed : hit r.box ≡ false → (stride : ℕ) → stride_of (record_of r) ≡ stride → Leads l s [] (node_state tree (k + stride) last (reads + 1) handed)
    unfolding node_of
    row_missed e stride es =
        leads_step l s (node_state tree (k + stride) last (reads + 1) handed) [] goes_on
        (reads_row ∙ node_onward _ _ _ _ fine e ∙ ap (λ (n : ℕ). quiet (onward n s)) es)

  leads_to : (s s' s'' : WalkState) (is : List ℕ) → Leads l s is s' → s' ≡ s'' → Leads l s is s''
  leads_to s s' s'' is h e = subst (Leads l s is) e h

  states : (tree last k k' reads reads' handed handed' : ℕ) → k ≡ k' → reads ≡ reads' → handed ≡ handed'
      → node_state tree k last reads handed ≡ node_state tree k' last reads' handed'
  states tree last k k' reads reads' handed handed' e₁ e₂ e₃ = λ i. node_state tree (e₁ i) last (e₂ i) (e₃ i)

  -- The rows of the tree t stand from number k on and end by `last`. Its first item has the position lo, and its positions lie within the items.
  pub record RowsStand (k lo last : ℕ) (t : Node) : Type 0 where
    pub rest : List Row
    pub fit : Fit lo t
    pub rows_are : drop k w.nodes ≡ rows lo t ++ rest
    pub ends : k + size t ≤ last
    pub items : lo + length (leaf_order t) ≤ w.sizes.items

  -- From the number of a node's record on, what the visit of the node hands out, and behind its last record.
  abbrev pub Walks : Node → Type 0
  Walks t =
      (k lo tree last reads handed : ℕ) → RowsStand k lo last t → handed ≤ lo
      → Leads l (node_state tree k last reads handed) (seen lo t)
      (node_state tree (k + size t) last (reads + visit_reads hit t) (handed + length (seen lo t)))

  abbrev leaf_row : BoxWords → ℕ → List ℕ → Row
  leaf_row b lo ps = record { box = b; head = lo; count = length ps }

  leaf_id : (b : BoxWords) (lo : ℕ) (ps : List ℕ) → length ps ≡ 0 → id_in (leaf_row b lo ps) ≡ lo
  leaf_id b lo ps e = rw (eq-eqb (length ps) 0 e)

  leaf_stride : (b : BoxWords) (lo : ℕ) (ps : List ℕ) → Fit lo (leaf b ps) → stride_of (record_of (leaf_row b lo ps)) ≡ 1
  leaf_stride b lo ps fit = go (eqb (length ps) 0) refl
    where
      go : (q : Bool) → eqb (length ps) 0 ≡ q → stride_of (record_of (leaf_row b lo ps)) ≡ 1
      go true e =
          let none : length ps ≡ 0 = eqb-true (length ps) 0 e in
          stride_empty w.scale w.threshold w.order (leaf_row b lo ps) none ∙ omega (arith, leaf_id b lo ps none, fit none)
      go false e =
          let n = eqb-false (length ps) 0 e in
          stride_leaf w.scale w.threshold w.order (leaf_row b lo ps) (omega arith)

  walk_leaf : (b : BoxWords) (ps : List ℕ) → Walks (leaf b ps)
  walk_leaf b ps k lo tree last reads handed st few = go (hit b) refl
    where
      empty : length ps ≡ 0 → k + max (id_in (leaf_row b lo ps)) 1 ≤ last
      empty none = omega (arith, leaf_id b lo ps none, st.fit none)

      go : (h : Bool) → hit b ≡ h
          → Leads l (node_state tree k last reads handed) (cond h (up_from (id_in (leaf_row b lo ps)) (length ps)) [])
          (node_state tree (k + 1) last (reads + 1) (handed + length (cond h (up_from (id_in (leaf_row b lo ps)) (length ps)) [])))
      go true e =
          leads_to _ _ _ _
          (row_hit (leaf_row b lo ps) st.rest k tree last reads handed st.rows_are (omega (arith, st.ends)) empty e (omega (arith, st.items)))
          (states tree last _ _ _ _ _ _ refl refl (ap (λ (n : ℕ). handed + n) (sym (length_up (id_in (leaf_row b lo ps)) (length ps)))))
      go false e =
          leads_to _ _ _ _
          (row_missed (leaf_row b lo ps) st.rest k tree last reads handed st.rows_are (omega (arith, st.ends)) empty e 1 (leaf_stride b lo ps st.fit))
          (states tree last _ _ _ _ _ _ refl refl (sym (add-zero handed)))

  abbrev inner_row : BoxWords → Node → Node → Row
  inner_row b l₁ l₂ = record { box = b; head = size (inner b l₁ l₂); count = 0 }

  -- the rows of an inner node's children
  module _ (k lo last : ℕ) (b : BoxWords) (l₁ l₂ : Node) (st : RowsStand k lo last (inner b l₁ l₂)) where
    abbrev mid : ℕ
    mid = lo + length (leaf_order l₁)

    both : length (leaf_order l₁ ++ leaf_order l₂) ≡ length (leaf_order l₁) + length (leaf_order l₂)
    both = length-append (leaf_order l₁) (leaf_order l₂)

    behind_root : drop (k + 1) w.nodes ≡ (rows lo l₁ ++ rows mid l₂) ++ st.rest
    behind_root = sym (drop-drop 1 k w.nodes) ∙ ap (drop 1) st.rows_are

    first_rows : RowsStand (k + 1) lo last l₁
    first_rows =
        record {
          rest = rows mid l₂ ++ st.rest;
          fit = st.fit.0;
          rows_are = behind_root ∙ append_assoc (rows lo l₁) (rows mid l₂) st.rest;
          ends = omega (arith, st.ends);
          items = omega (arith, st.items, both);
        }

    second_rows : RowsStand (k + 1 + size l₁) mid last l₂
    second_rows =
        record {
          rest = st.rest;
          fit = st.fit.1;
          rows_are = drop_second w.nodes (k + 1) (size l₁) (rows lo l₁) (rows mid l₂) st.rest (length_rows lo l₁) behind_root;
          ends = omega (arith, st.ends);
          items = omega (arith, st.items, both);
        }

  walk_inner : (b : BoxWords) (l₁ l₂ : Node) → Walks l₁ → Walks l₂ → Walks (inner b l₁ l₂)
  walk_inner b l₁ l₂ first second k lo tree last reads handed st few = go (hit b) refl
    where
      go : (h : Bool) → hit b ≡ h
          → Leads l (node_state tree k last reads handed) (cond h (seen lo l₁ ++ seen (lo + length (leaf_order l₁)) l₂) [])
          (node_state tree (k + size (inner b l₁ l₂)) last (reads + (1 + cond h (visit_reads hit l₁ + visit_reads hit l₂) 0))
          (handed + length (cond h (seen lo l₁ ++ seen (lo + length (leaf_order l₁)) l₂) [])))
      go true e =
          let lo₂ = lo + length (leaf_order l₁) in
          let few₁ : length (seen lo l₁) ≤ length (leaf_order l₁) = visit_few hit w.threshold w.order lo l₁ in
          let reads₁ = reads + 1 + visit_reads hit l₁ in
          let handed₁ = handed + 0 + length (seen lo l₁) in
          let s₀ = node_state tree k last reads handed in
          let s₁ = node_state tree (k + 1) last (reads + 1) (handed + 0) in
          let s₂ = node_state tree (k + 1 + size l₁) last reads₁ handed₁ in
          let s₃ = node_state tree (k + 1 + size l₁ + size l₂) last (reads₁ + visit_reads hit l₂) (handed₁ + length (seen lo₂ l₂)) in
          let root : Leads l s₀ [] s₁ =
          row_hit (inner_row b l₁ l₂) _ k tree last reads handed st.rows_are (omega (arith, st.ends))
          (λ none. omega (arith, st.ends)) e (omega (arith, st.items)) in
          let one : Leads l s₁ (seen lo l₁) s₂ = first (k + 1) lo tree last (reads + 1) (handed + 0) (first_rows k lo last b l₁ l₂ st) (omega arith) in
          let two : Leads l s₂ (seen lo₂ l₂) s₃ =
          second (k + 1 + size l₁) lo₂ tree last reads₁ handed₁ (second_rows k lo last b l₁ l₂ st) (omega arith) in
          leads_to s₀ s₃ _ _ (leads_then l s₀ s₁ s₃ [] _ root (leads_then l s₁ s₂ s₃ _ _ one two))
          (states tree last _ _ _ _ _ _ (omega arith) (omega arith) (omega (arith, length-append (seen lo l₁) (seen lo₂ l₂))))
      go false e =
          leads_to _ _ _ _
          (row_missed (inner_row b l₁ l₂) _ k tree last reads handed st.rows_are (omega (arith, st.ends))
          (λ none. omega (arith, st.ends)) e (size (inner b l₁ l₂))
          (stride_empty w.scale w.threshold w.order (inner_row b l₁ l₂) refl ∙ omega arith))
          (states tree last _ _ _ _ _ _ refl refl (sym (add-zero handed)))

  pub walk_node : (t : Node) → Walks t
  walk_node (leaf b ps) = walk_leaf b ps
  walk_node (inner b l₁ l₂) = walk_inner b l₁ l₂ (walk_node l₁) (walk_node l₂)

  -- ---- a tree's ranges

  -- The walk has come to tree j with no node left to read, having handed out `is`.
  pub record Arrives (s : WalkState) (j reads handed : ℕ) (is : List ℕ) : Type 0 where
    pub state : WalkState
    pub way : Leads l s is state
    pub tree_is : state.tree ≡ j
    pub idle : state.last ≤ state.at
    pub reads_are : state.reads ≡ reads
    pub handed_are : state.handed ≡ handed
    pub going_on : state.status ≡ Ok tt

  -- what stands before a range's record
  pub record Waits (j lo : ℕ) (s : WalkState) : Type 0 where
    pub tree_is : s.tree ≡ j
    pub idle : s.last ≤ s.at
    pub going_on : s.status ≡ Ok tt
    pub few : s.handed ≤ lo

  -- The ranges rs stand from tree j on, and the numbers of nodes fit their records.
  pub record RangesStand (j : ℕ) (rs : List Range) : Type 0 where
    pub rest : List Range
    pub ranges_are : drop j w.trees ≡ rs ++ rest
    pub ends : j + length rs ≤ w.sizes.trees
    pub few_nodes : w.sizes.nodes ≤ 32767

  seen_missed : (lo : ℕ) (t : Node) → hit (box_of t) ≡ false → seen lo t ≡ []
  seen_missed lo (leaf b ps) e = rw e
  seen_missed lo (inner b l₁ l₂) e = rw e

  abbrev range_at : ℕ → Node → Range
  range_at k t = range_of (record { number = k; root = t })

  range_fine : (k : ℕ) (t : Node) → k + size t ≤ w.sizes.nodes → bad_range w.sizes.nodes (tree_record w.scale (range_at k t)) ≡ false
  unfolding bad_range tree_record
  range_fine k t h = rw (le-ltb k 0 (omega arith), le-ltb (k + size t) k (omega arith), le-ltb w.sizes.nodes (k + size t) h)

  pub walk_range : (t : Node) (k lo j : ℕ) (s : WalkState) → RowsStand k lo w.sizes.nodes t → RangesStand j (range_at k t ∷ []) → Waits j lo s
      → Arrives s (j + 1) (s.reads + range_reads hit t) (s.handed + length (seen lo t)) (seen lo t)
  unfolding tree_record
  walk_range t k lo j s st there waits = go (hit (box_of t)) refl
    where
      goes : more w.sizes.trees s ≡ true
      goes =
          let this-tree = lt-ltb s.tree w.sizes.trees (omega (arith, waits.tree_is, there.ends)) in
          rw (waits.going_on, le-ltb s.at s.last waits.idle, this-tree)

      record_is : tree_at (lent w).trees (16 * s.tree) ≡ tree_record w.scale (range_at k t)
      record_is =
          ap (λ (n : ℕ). tree_at (lent w).trees (16 * n)) waits.tree_is
          ∙ tree_read w.scale w.after_trees w.trees j (range_at k t) there.rest there.ranges_are
          (omega (arith, size_some t, st.ends, there.few_nodes)) (omega (arith, st.ends, there.few_nodes))

      steps : step_of l s ≡ quiet (at_tree w.query w.sizes.nodes (tree_record w.scale (range_at k t)) s)
      steps = step_tree l s waits.idle ∙ ap (λ (r : BvhTree). quiet (at_tree w.query w.sizes.nodes r s)) record_is

      go_in : hit (box_of t) ≡ true → Leads l s [] (node_state (s.tree + 1) k (k + size t) (s.reads + 1) s.handed)
      go_in e =
          leads_step l s (node_state (s.tree + 1) k (k + size t) (s.reads + 1) s.handed) [] goes
          (steps ∙ ap quiet (tree_entered w.query w.sizes.nodes (tree_record w.scale (range_at k t)) s (range_fine k t st.ends) e))

      go_past : hit (box_of t) ≡ false → Leads l s [] (passing s)
      go_past e =
          leads_step l s (passing s) [] goes
          (steps ∙ ap quiet (tree_passed w.query w.sizes.nodes (tree_record w.scale (range_at k t)) s (range_fine k t st.ends) e))

      -- the rows end where the range does
      in_range : RowsStand k lo (k + size t) t
      in_range = record { rest = st.rest; fit = st.fit; rows_are = st.rows_are; ends = omega arith; items = st.items }

      go : (h : Bool) → hit (box_of t) ≡ h → Arrives s (j + 1) (s.reads + (1 + cond h (visit_reads hit t) 0)) (s.handed + length (seen lo t)) (seen lo t)
      go true e =
          record {
            state = node_state (s.tree + 1) (k + size t) (k + size t) (s.reads + 1 + visit_reads hit t) (s.handed + length (seen lo t));
            way = leads_then l s _ _ [] (seen lo t) (go_in e) (walk_node t k lo (s.tree + 1) (k + size t) (s.reads + 1) s.handed in_range waits.few);
            tree_is = ap (λ (n : ℕ). n + 1) waits.tree_is;
            idle = omega arith;
            reads_are = omega arith;
            handed_are = refl;
            going_on = refl;
          }
      go false e =
          let none : seen lo t ≡ [] = seen_missed lo t e in
          record {
            state = passing s;
            way = subst (λ (is : List ℕ). Leads l s is (passing s)) (sym none) (go_past e);
            tree_is = ap (λ (n : ℕ). n + 1) waits.tree_is;
            idle = waits.idle;
            reads_are = refl;
            handed_are = sym (ap (λ (is : List ℕ). s.handed + length is) none ∙ add-zero s.handed);
            going_on = refl;
          }

  -- ---- a tree's parts

  abbrev pub seen_in : ℕ → List Subtree → List ℕ
  seen_in lo ps = visit_parts hit w.threshold w.order lo ps

  -- From the number of the first range of a tree on, what its parts hand out, and behind the last of its ranges.
  abbrev pub WalksParts : ℕ → Node → List Subtree → Type 0
  WalksParts k t ps =
      (lo j : ℕ) (s : WalkState) → RowsStand k lo w.sizes.nodes t → RangesStand j (map range_of ps) → Waits j lo s
      → Arrives s (j + length ps) (s.reads + part_reads hit ps) (s.handed + length (seen_in lo ps)) (seen_in lo ps)

  arrives_with : (s : WalkState) (j j' reads reads' : ℕ) (is is' : List ℕ) → Arrives s j reads (s.handed + length is) is
      → j ≡ j' → reads ≡ reads' → is ≡ is' → Arrives s j' reads' (s.handed + length is') is'
  arrives_with s j j' reads reads' is is' a e₁ e₂ e₃ =
      record {
        state = a.state;
        way = subst (λ (x : List ℕ). Leads l s x a.state) e₃ a.way;
        tree_is = a.tree_is ∙ e₁;
        idle = a.idle;
        reads_are = a.reads_are ∙ e₂;
        handed_are = a.handed_are ∙ ap (λ (x : List ℕ). s.handed + length x) e₃;
        going_on = a.going_on;
      }

  -- one way and then another
  arrives_then : (s : WalkState) (j₁ j₂ reads₁ n : ℕ) (is js : List ℕ) (a : Arrives s j₁ reads₁ (s.handed + length is) is)
      → Arrives a.state j₂ (a.state.reads + n) (a.state.handed + length js) js
      → Arrives s j₂ (reads₁ + n) (s.handed + length (is ++ js)) (is ++ js)
  arrives_then s j₁ j₂ reads₁ n is js a b =
      record {
        state = b.state;
        way = leads_then l s a.state b.state is js a.way b.way;
        tree_is = b.tree_is;
        idle = b.idle;
        reads_are = b.reads_are ∙ ap (λ (x : ℕ). x + n) a.reads_are;
        handed_are = omega (arith, b.handed_are, a.handed_are, length-append is js);
        going_on = b.going_on;
      }

  first_ranges : (j : ℕ) (ps qs : List Subtree) → RangesStand j (map range_of (ps ++ qs)) → RangesStand j (map range_of ps)
  first_ranges j ps qs st =
      record {
        rest = map range_of qs ++ st.rest;
        ranges_are =
            st.ranges_are ∙ ap (λ (rs : List Range). rs ++ st.rest) (map-append range_of ps qs)
            ∙ append_assoc (map range_of ps) (map range_of qs) st.rest;
        ends = omega (arith, st.ends, length-append ps qs, length-map (ps ++ qs) range_of, length-map ps range_of);
        few_nodes = st.few_nodes;
      }

  second_ranges : (j : ℕ) (ps qs : List Subtree) → RangesStand j (map range_of (ps ++ qs)) → RangesStand (j + length ps) (map range_of qs)
  second_ranges j ps qs st =
      record {
        rest = st.rest;
        ranges_are =
            drop_second w.trees j (length ps) (map range_of ps) (map range_of qs) st.rest (length-map ps range_of)
            (st.ranges_are ∙ ap (λ (rs : List Range). rs ++ st.rest) (map-append range_of ps qs));
        ends = omega (arith, st.ends, length-append ps qs, length-map (ps ++ qs) range_of, length-map qs range_of);
        few_nodes = st.few_nodes;
      }

  module _ (limit : ℕ) (limit_some : 0 < limit) where
    walk_both : (k : ℕ) (b : BoxWords) (l₁ l₂ : Node)
        → WalksParts (k + 1) l₁ (parts limit (k + 1) l₁) → WalksParts (k + 1 + size l₁) l₂ (parts limit (k + 1 + size l₁) l₂)
        → WalksParts k (inner b l₁ l₂) (parts limit (k + 1) l₁ ++ parts limit (k + 1 + size l₁) l₂)
    walk_both k b l₁ l₂ one two lo j s st there waits =
        let lo₂ = lo + length (leaf_order l₁) in
        let ps = parts limit (k + 1) l₁ in
        let qs = parts limit (k + 1 + size l₁) l₂ in
        let few₁ : length (seen_in lo ps) ≤ length (leaf_order l₁) = parts_few hit w.threshold w.order limit limit_some (k + 1) l₁ lo in
        let a = one lo j s (first_rows k lo w.sizes.nodes b l₁ l₂ st) (first_ranges j ps qs there) waits in
        let waits₂ : Waits (j + length ps) lo₂ a.state =
        record { tree_is = a.tree_is; idle = a.idle; going_on = a.going_on; few = omega (arith, a.handed_are, waits.few) } in
        let c = two lo₂ (j + length ps) a.state (second_rows k lo w.sizes.nodes b l₁ l₂ st) (second_ranges j ps qs there) waits₂ in
        arrives_with s _ _ _ _ (seen_in lo ps ++ seen_in lo₂ qs) _
        (arrives_then s (j + length ps) (j + length ps + length qs) (s.reads + part_reads hit ps) (part_reads hit qs) (seen_in lo ps) (seen_in lo₂ qs) a c)
        (omega (arith, length-append ps qs)) (omega (arith, reads_append hit w.threshold w.order ps qs))
        (sym (visit_both hit w.threshold w.order limit limit_some k lo l₁ l₂))

    -- from any state that waits before the first of the ranges
    pub walk_parts : (k : ℕ) (t : Node) → WalksParts k t (parts limit k t)
    walk_parts =
        parts_induction limit limit_some WalksParts
        (λ k t h lo j s st there waits.
        arrives_with s (j + 1) (j + 1) _ _ (seen lo t) (seen lo t ++ []) (walk_range t k lo j s st there waits)
        refl (omega arith) (sym (append-nil (seen lo t))))
        (λ k b l₁ l₂ h one two. walk_both k b l₁ l₂ one two)

  -- ---- the whole walk

  -- What the walk over the records of a tree comes to, whose parts are ps.
  pub record Covers (ps : List Subtree) : Type 0 where
    pub given_are : (walk_from l started).given ≡ seen_in 0 ps
    pub reads_are : (walk_from l started).state.reads ≡ part_reads hit ps
    pub handed_are : (walk_from l started).state.handed ≡ length (seen_in 0 ps)
    pub going_on : (walk_from l started).state.status ≡ Ok tt

  -- What the walk goes by is of the tree t, its parts cut at the limit.
  pub record Of (limit : ℕ) (t : Node) : Type 0 where
    pub fit : Fit 0 t
    pub nodes_are : w.nodes ≡ rows 0 t
    pub trees_are : w.trees ≡ ranges limit 0 t
    pub nodes_number : w.sizes.nodes ≡ size t
    pub trees_number : w.sizes.trees ≡ length (ranges limit 0 t)
    pub few_nodes : size t ≤ 32767
    pub items_enough : length (leaf_order t) ≤ w.sizes.items

  pub walk_covers : (limit : ℕ) → 0 < limit → (t : Node) → Of limit t → Covers (parts limit 0 t)
  walk_covers limit some t of =
      let ps = parts limit 0 t in
      let st : RowsStand 0 0 w.sizes.nodes t =
      record {
        rest = [];
        fit = of.fit;
        rows_are = of.nodes_are ∙ sym (append-nil (rows 0 t));
        ends = omega (arith, of.nodes_number);
        items = omega (arith, of.items_enough);
      } in
      let there : RangesStand 0 (ranges limit 0 t) =
      record {
        rest = [];
        ranges_are = of.trees_are ∙ sym (append-nil (ranges limit 0 t));
        ends = omega (arith, of.trees_number);
        few_nodes = omega (arith, of.nodes_number, of.few_nodes);
      } in
      let a : Arrives started (0 + length ps) (0 + part_reads hit ps) (0 + length (seen_in 0 ps)) (seen_in 0 ps) =
      walk_parts limit some 0 t 0 0 started st there (record { tree_is = refl; idle = omega arith; going_on = refl; few = omega arith }) in
      let s = a.state in
      let done : more w.sizes.trees s ≡ false =
      let last-tree = le-ltb s.tree w.sizes.trees (omega (arith, a.tree_is, of.trees_number, length-map ps range_of)) in
      rw (a.going_on, le-ltb s.at s.last a.idle, last-tree) in
      let end : walk_from l started ≡ behind (seen_in 0 ps) (quiet s) = a.way.goes ∙ ap (behind (seen_in 0 ps)) (walk_none l s done) in
      record {
        given_are = ap (λ (u : Turn). u.given) end ∙ append-nil (seen_in 0 ps);
        reads_are = ap (λ (u : Turn). u.state.reads) end ∙ a.reads_are ∙ zero-add (part_reads hit ps);
        handed_are = ap (λ (u : Turn). u.state.handed) end ∙ a.handed_are ∙ zero-add (length (seen_in 0 ps));
        going_on = ap (λ (u : Turn). u.state.status) end ∙ a.going_on;
      }
