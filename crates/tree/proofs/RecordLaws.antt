-- The records that a build wrote, read back: node record k is that of row k of the tree, tree record j that of range j, and the order list leads
-- to the items of the leaf order. So what holds of the tree (bvh's Promises, PairLaws) holds of the bytes.
use Rattle.std.specs.Prelude.{◌≡◌, ℕ, zero, suc, ◌+◌, ◌-◌, ◌*◌, ◌<◌, ◌≤◌, Bool, true, false, cond, T, eqb, List, [], ◌∷◌, ◌++◌, map, length, get_or, drop}
use native.Mathlib.Omega.{arith}
use mathlib.Core.List.{append_assoc}
use mathlib.Core.List.Memᴰ
use mathlib.Core.List.{Memᴰ}
use mathlib.Core.Logic.{⊎_elim}
use mathlib.Core.Path.{refl, sym, ap, ap₂, ◌∙◌, subst}
use borrow.Author.Tests.{ne_eqb, eqb-true, eqb-false}
use lib.ListN.{get_or-append}
use lib.Seq.{drop-drop}
use Rattle.base.proofs.NumberLaws.{up_within}
use Rattle.base.specs.Lists.{one_if, occurrences, up_from, over}
use Rattle.math.specs.declared.aabb.Aabb.{Aabb}
use Rattle.records.specs.Records.{node_at}
use Rattle.records.specs.declared.BvhNode.{BvhNode}
use Rattle.records.specs.declared.BvhTree.{BvhTree}
use Rattle.records.specs.declared.scale.Scale.{Scale}
use Rattle.bvh.specs.Build.{Entries, tree_of, scale_in, built_of, nodes_written, trees_written, trees_written_by, order_written}
use Rattle.bvh.specs.Entry.{Outputs, outputs}
use Rattle.rows.specs.Numbers.{ranges_holding, subtrees}
use Rattle.rows.specs.Output.{id_of, node_of, nodes_bytes, pad_bytes, tree_record, trees_bytes, capacity_of, order_of}
use Rattle.rows.specs.Positions.{item_at, items_in, items_of}
use Rattle.rows.specs.Ranges.{Range, Subtree, ranges, range_limit}
use Rattle.rows.specs.Rows.{Row, rows}
use Rattle.rows.specs.Tree.{Node, leaf, inner, leaf_order, size}
use Rattle.growth.specs.Grow.{builder, grow}
use Rattle.bvh.proofs.Promises.{well_grown}
use Rattle.rows.proofs.PositionLaws.{rows_at_most}
use Rattle.rows.proofs.RangeLaws.{range_is_subtree, range_size, subtree_within, small_held_once, numbers_are, subtree_rows}
use Rattle.rows.proofs.TreeLaws.{length_rows}
use Rattle.walk_steps.specs.Boxes.{query_of, meets}
use Rattle.walk_steps.specs.Refusals.{whole}
use Rattle.tree.specs.Pair.{outcome_of, Delivered}
use Rattle.tree.specs.Visit.{hit_in, FromHit}
use Rattle.tree.specs.WellFormed.{node_no, tree_no, positions_in, items_at, items_held, is_leaf, holds_node, ranges_with}
use Rattle.tree.specs.WellFormed.{NodeNumbers, RangeNumbers, WellFormed, FromLeaf}
use Rattle.tree.proofs.MachineLaws.{mem_drop}
use Rattle.tree.proofs.PairLaws.{Stands, small_member, size_few, order_long, at_most, rows_small, inside_by, handed_inside}
use Rattle.tree.proofs.PairLaws.{item_count, items_by, visited, Visited}
use Rattle.tree.proofs.ReadLaws.{node_read, tree_read}

-- ---- lists

-- two functions that agree on each number of a list
map_same : (f g : ℕ → ℕ) (xs : List ℕ) → ((x : ℕ) → Memᴰ x xs → f x ≡ g x) → map f xs ≡ map g xs
map_same f g [] h = refl
map_same f g (x ∷ xs) h = ap₂ ◌∷◌ (h x (Memᴰ.head refl)) (map_same f g xs (λ y m. h y (Memᴰ.tail m)))

-- what stands at a number of a list
pub record Standing {A : Type 0} (l : List A) (k : ℕ) : Type 0 where
  pub item : A
  pub rest : List A
  pub there : drop k l ≡ item ∷ rest

standing : {A : Type 0} (l : List A) (k : ℕ) → k < length l → Standing l k
standing [] k h = absurd (omega arith)
standing (x ∷ xs) zero h = record { item = x; rest = xs; there = refl }
standing (x ∷ xs) (suc k) h = let s = standing xs k (omega arith) in record { item = s.item; rest = s.rest; there = s.there }

-- where an element stands
record Found {A : Type 0} (l : List A) (x : A) : Type 0 where
  pub number : ℕ
  pub rest : List A
  pub there : drop number l ≡ x ∷ rest
  pub within : number < length l

found : {A : Type 0} (l : List A) (x : A) → Memᴰ x l → Found l x
found [] x m = absurd (Memᴰ.not-nil m)
found (y ∷ ys) x m =
    ⊎_elim {C = Found (y ∷ ys) x} (λ e. record { number = 0; rest = ys; there = ap (λ z. z ∷ ys) (sym e); within = omega arith })
    (λ m'. let f = found ys x m' in record { number = suc f.number; rest = f.rest; there = f.there; within = omega (arith, f.within) })
    (Memᴰ.cases_cons m)

next : {A : Type 0} (l : List A) (k : ℕ) (x : A) (xs : List A) → drop k l ≡ x ∷ xs → drop (k + 1) l ≡ xs
next l k x xs h = sym (drop-drop 1 k l) ∙ ap (drop 1) h

-- the subtree with a number, among subtrees that are numbered one after the other
record Numbered (k : ℕ) (ss : List Subtree) : Type 0 where
  pub subtree : Subtree
  pub within : Memᴰ subtree ss
  pub number_is : subtree.number ≡ k

numbered : (k at n : ℕ) (ss : List Subtree) → map (λ s. s.number) ss ≡ up_from at n → at ≤ k → k < at + n → Numbered k ss
numbered k at zero ss e lo hi = absurd (omega arith)
numbered k at (suc n) [] e lo hi = absurd (let z : 0 ≡ suc (length (up_from (at + 1) n)) = ap length e in omega arith)
numbered k at (suc n) (s ∷ ss) e lo hi = go (eqb at k) refl (numbered k (at + 1) n ss (ap (drop 1) e))
  where
    go : (q : Bool) → eqb at k ≡ q → (at + 1 ≤ k → k < at + 1 + n → Numbered k ss) → Numbered k (s ∷ ss)
    go true same later =
        record { subtree = s; within = Memᴰ.head refl; number_is = ap (λ (l : List ℕ). get_or l 0 0) e ∙ eqb-true at k same }
    go false other later =
        let f = later (omega (arith, eqb-false at k other)) (omega arith) in
        record { subtree = f.subtree; within = Memᴰ.tail f.within; number_is = f.number_is }

module _ (e : Entries) (th : ℕ) (stands : Stands e th) (before : Outputs) where
  abbrev t : Node
  t = grow (builder e.at) th e.places

  abbrev order : List ℕ
  order = leaf_order t

  abbrev scale : Scale
  scale = scale_in t

  -- what the build left
  abbrev after : Outputs
  after =
      outputs (over (nodes_written e th) before.nodes) (over (trees_written e th) before.trees) (over (order_written e th) before.order)

  -- ---- the records

  pub node_recorded : (k : ℕ) (r : Row) (qs : List Row) → drop k (rows 0 t) ≡ r ∷ qs → node_no after k ≡ node_of scale th order r
  unfolding tree_of nodes_written
  node_recorded k r qs h =
      let written = nodes_bytes scale th order (rows 0 t) in
      let pads = pad_bytes (capacity_of th e.number (size t) - size t) in
      let rest = drop (length (written ++ pads)) before.nodes in
      ap (λ (l : List ℕ). node_at l (16 * k)) (append_assoc written pads rest)
      ∙ node_read scale th order (pads ++ rest) (rows 0 t) k r qs h
      (small_member th order (rows 0 t) r (rows_small e th stands) (mem_drop (rows 0 t) k r qs h))

  -- a range lies within the nodes
  range_inside : (r : Range) → Memᴰ r (ranges range_limit 0 t) → r.last ≤ size t
  range_inside r m =
      let p = range_is_subtree range_limit (omega arith) 0 t r m in
      let last : r.last ≡ p.subtree.number + size p.subtree.root = ap (λ (x : Range). x.last) p.range_is in
      omega (arith, last, (subtree_within 0 t p.subtree p.within).1)

  range_some : (r : Range) → Memᴰ r (ranges range_limit 0 t) → (r.first < r.last) × (r.last - r.first ≤ range_limit)
  range_some r m = let s = range_size range_limit (omega arith) 0 t r m in (omega (arith, s.0), s.1)

  pub tree_recorded : (j : ℕ) (r : Range) (qs : List Range) → drop j (ranges range_limit 0 t) ≡ r ∷ qs → tree_no after j ≡ tree_record scale r
  unfolding tree_of trees_written_by
  tree_recorded j r qs h =
      let m = mem_drop (ranges range_limit 0 t) j r qs h in
      tree_read scale (drop (length (trees_bytes scale (ranges range_limit 0 t))) before.trees) (ranges range_limit 0 t) j r qs h
      (omega (arith, (range_some r m).0, range_inside r m, size_few e th stands)) (omega (arith, range_inside r m, size_few e th stands))

  -- ---- the order list

  -- by the test of the threshold
  order_by : (q : Bool) (i : ℕ) (rest : List ℕ) → (q ≡ false → i < length order)
      → cond q i (get_or (cond q e.places order ++ rest) i 0) ≡ cond q i (get_or order i 0)
  order_by true i rest inside = refl
  order_by false i rest inside = get_or-append order rest 0 i (inside refl)

  below_by : (q : Bool) (i : ℕ) → i < cond q e.number (length e.places) → q ≡ false → i < length order
  below_by q i h many =
      let k : i < length e.places = subst (λ (b : Bool). i < cond b e.number (length e.places)) many h in
      omega (arith, order_long e th stands)

  -- The order list that the build left leads to the items of the leaf order, at each position below the item count.
  pub order_leads : (i : ℕ) → i < item_count e th → item_at th after.order i ≡ item_at th order i
  unfolding order_written tree_of
  order_leads i inside =
      let written = order_of th e.places order in
      order_by (eqb th 1) i (drop (length written) before.order) (below_by (eqb th 1) i inside)

  -- ---- what the leaf records hold

  row_positions : (r : Row) → Memᴰ r (rows 0 t) → (i : ℕ) → Memᴰ i (up_from (id_of th order r) r.count) → i < item_count e th
  row_positions r m i h =
      let w = up_within r.count (id_of th order r) i h in
      omega (arith, w.0, w.1, inside_by e th stands (eqb th 1) refl r m (omega (arith, w.0, w.1)))

  row_items : (k : ℕ) (r : Row) (qs : List Row) → drop k (rows 0 t) ≡ r ∷ qs → items_at th after (positions_in (node_no after k)) ≡ items_in th order r
  unfolding node_of
  row_items k r qs h =
      ap (λ (n : BvhNode). items_at th after (positions_in n)) (node_recorded k r qs h)
      ∙ map_same (item_at th after.order) (item_at th order) (up_from (id_of th order r) r.count)
      (λ i m. order_leads i (row_positions r (mem_drop (rows 0 t) k r qs h) i m))

  held_from : (k : ℕ) (rs : List Row) → drop k (rows 0 t) ≡ rs → items_held th after k (length rs) ≡ items_of th order rs
  held_from k [] h = refl
  held_from k (r ∷ rs) h = ap₂ ◌++◌ (row_items k r rs h) (held_from (k + 1) rs (next (rows 0 t) k r rs h))

  pub all_held : items_held th after 0 (size t) ≡ items_of th order (rows 0 t)
  all_held = ap (items_held th after 0) (sym (length_rows 0 t)) ∙ held_from 0 (rows 0 t) refl

  -- ---- the ranges

  holding_from : (k j : ℕ) (rs : List Range) → drop j (ranges range_limit 0 t) ≡ rs → ranges_with k after j (length rs) ≡ ranges_holding k rs
  unfolding tree_record
  holding_from k j [] h = refl
  holding_from k j (r ∷ rs) h =
      ap₂ ◌+◌ (ap (λ (x : BvhTree). one_if (holds_node k x)) (tree_recorded j r rs h))
      (holding_from k (j + 1) rs (next (ranges range_limit 0 t) j r rs h))

  range_numbers : (j : ℕ) → j < length (ranges range_limit 0 t) → RangeNumbers (size t) (tree_no after j)
  unfolding tree_record
  range_numbers j h =
      let s = standing (ranges range_limit 0 t) j h in
      let r = s.item in
      let m = mem_drop (ranges range_limit 0 t) j r s.rest s.there in
      let is = tree_recorded j r s.rest s.there in
      record {
        first = r.first;
        last = r.last;
        first_is = ap (λ (x : BvhTree). x.node_index1) is;
        last_is = ap (λ (x : BvhTree). x.node_index2) is;
        some = (range_some r m).0;
        within = range_inside r m;
        at_most = (range_some r m).1;
      }

  node_numbers : (k : ℕ) → k < size t → NodeNumbers th (item_count e th) (node_no after k)
  unfolding node_of
  node_numbers k h =
      let s = standing (rows 0 t) k (omega (arith, length_rows 0 t)) in
      let r = s.item in
      let m = mem_drop (rows 0 t) k r s.rest s.there in
      let is = node_recorded k r s.rest s.there in
      record {
        id = id_of th order r;
        count = r.count;
        id_is = ap (λ (x : BvhNode). x.item_id) is;
        count_is = ap (λ (x : BvhNode). x.item_count) is;
        at_most = rows_at_most th 0 t (at_most e th stands) r m;
        inside = inside_by e th stands (eqb th 1) refl r m;
      }

  -- ---- each leaf in one range

  by_root : (k : ℕ) (root : Node) → Memᴰ (record { number = k; root = root }) (subtrees 0 t) → is_leaf (node_no after k) ≡ true
      → ranges_holding k (ranges range_limit 0 t) ≡ 1
  unfolding node_of
  by_root k (leaf b ps) m h = small_held_once range_limit (omega arith) 0 t (record { number = k; root = leaf b ps }) m (omega arith)
  by_root k (inner b l r) m h =
      let f = subtree_rows 0 t (record { number = k; root = inner b l r }) m in
      let is = node_recorded k _ _ f.rows_are in
      let none : is_leaf (node_no after k) ≡ false = ap is_leaf is ∙ ne_eqb (size (inner b l r)) 0 (λ z. omega arith) in
      absurd (subst T (sym h ∙ none) tt)

  in_one_range : (k : ℕ) → k < size t → is_leaf (node_no after k) ≡ true → ranges_holding k (ranges range_limit 0 t) ≡ 1
  in_one_range k h leafy =
      let n = numbered k 0 (size t) (subtrees 0 t) (numbers_are 0 t) (omega arith) (omega arith) in
      subst (λ (x : ℕ). is_leaf (node_no after x) ≡ true → ranges_holding x (ranges range_limit 0 t) ≡ 1) n.number_is
      (by_root n.subtree.number n.subtree.root n.within) leafy

  -- ---- the promises

  pub formed : WellFormed e th (built_of e th (tree_of e th)) after
  unfolding tree_of
  formed =
      let g = well_grown range_limit e th (omega arith) stands.threshold stands.rising in
      record {
        present_once = λ p m. ap (occurrences p) all_held ∙ g.present_once p m;
        only_present = λ p. ap (occurrences p) all_held ∙ g.only_present p;
        at_most = node_numbers;
        in_one_range = λ k h leafy. holding_from k 0 (ranges range_limit 0 t) refl ∙ in_one_range k h leafy;
        ranges_are = range_numbers;
      }

  -- a leaf that is hit has a record that is
  from_leaf : (query : Aabb) (i : ℕ) → FromHit (hit_in query scale) th order (rows 0 t) i
      → FromLeaf (query_of query scale.cen scale.inverse) (size t) after i
  unfolding node_of
  from_leaf query i h =
      let f = found (rows 0 t) h.row h.within in
      let is = sym (node_recorded f.number h.row f.rest f.there) in
      record {
        number = f.number;
        within = omega (arith, f.within, length_rows 0 t);
        hit = subst (λ (n : BvhNode). meets (query_of query scale.cen scale.inverse) n.min n.max ≡ true) is h.meets;
        low = subst (λ (n : BvhNode). whole n.item_id ≤ i) is h.low;
        high = subst (λ (n : BvhNode). i < whole n.item_id + whole n.item_count) is h.high;
      }

  pub delivered : (query : Aabb) (room : ℕ)
      → Delivered e th query (built_of e th (tree_of e th)) after room (outcome_of e th query (built_of e th (tree_of e th)) after room)
  unfolding tree_of
  delivered query room =
      let o = outcome_of e th query (built_of e th t) after room in
      let v : Visited e th query room o = visited e th stands query before.nodes before.trees after.order room in
      let below : (i : ℕ) → Memᴰ i o.given → i < item_count e th =
      λ i m. handed_inside e th stands (hit_in query scale) i (v.from_leaves_that_meet i m) in
      let same : items_at th after o.given ≡ items_by e th o.given =
      map_same (item_at th after.order) (item_at th order) o.given (λ i m. order_leads i (below i m)) in
      record {
        refused_exactly = v.refused_exactly;
        every_item_that_meets = λ ordinary z p m meets. ap (occurrences p) same ∙ v.every_item_that_meets ordinary z p m meets;
        none_twice = λ p. rw same (v.none_twice p);
        only_present = λ p. rw same (v.only_present p);
        positions_below = λ i m. omega (arith, below i m);
        from_leaves_that_meet = λ i m. from_leaf query i (v.from_leaves_that_meet i m);
        count_is = v.count_is;
        reads_at_most = omega (arith, v.reads_at_most);
      }
