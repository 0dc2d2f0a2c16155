-- Point 3 of the request, in terms of the tree: a walk over a build's records is refused only with 2, and otherwise hands out every present item
-- that meets the query, none twice, none from a leaf that misses it, within the bound on the readings. RecordLaws says it of the records.
-- The walk is the visit (MachineLaws), and the visit has these properties (VisitLaws, HitLaws, MeetLaws).
use Rattle.std.specs.Prelude.{◌≡◌, ℕ, ◌+◌, ◌-◌, ◌*◌, ◌<◌, ◌≤◌, Bool, true, false, cond, eqb, ltb, List, [], ◌∷◌, ◌++◌, map, length, get_or, drop}
use native.Mathlib.Omega.{arith}
use mathlib.Core.List.{append_assoc, append-nil}
use mathlib.Core.List.Memᴰ
use mathlib.Core.List.{Memᴰ}
use mathlib.Core.Logic.{⊎_elim}
use mathlib.Core.Path.{refl, sym, ap, ◌∙◌, subst}
use borrow.Author.Tests.{le-ltb, ne_eqb, eqb-true}
use lib.ListN.{length-append}
use Rattle.base.proofs.WithinLaws.{below_within, within_below}
use Rattle.base.proofs.NumberLaws.{rising_once, rising_at_most, below_wider, below_at}
use Rattle.base.specs.Lists.{occurrences, Among, Below, Rising, over}
use Rattle.math.specs.declared.aabb.Aabb.{Aabb}
use Rattle.math.specs.declared.vec3.Vec3.{Vec3}
use Rattle.records.specs.declared.scale.Scale.{Scale}
use Rattle.records.specs.Scale.{scale_of_box}
use Rattle.entries.specs.Folding.{fold_box}
use Rattle.entries.specs.declared.boxes.BoxWords.{BoxWords}
use Rattle.bvh.specs.Build.{Entries, tree_of, scale_in, built_of, nodes_written, trees_written, trees_written_by}
use Rattle.bvh.specs.Entry.{outputs}
use Rattle.rows.specs.Steps.Decode.{Small, SmallRows}
use Rattle.rows.specs.Steps.Flat.{Full, Filled}
use Rattle.rows.specs.Output.{nodes_bytes, pad_bytes, trees_bytes, capacity_of}
use Rattle.rows.specs.Positions.{item_at}
use Rattle.rows.specs.Ranges.{parts, ranges, range_limit}
use Rattle.rows.specs.Rows.{Row, rows}
use Rattle.rows.specs.Tree.{Node, leaf, inner, box_of, leaf_order, size}
use Rattle.growth.specs.Grow.{Builder, builder, grow}
use Rattle.rows.proofs.EmitLaws.{length_nodes}
use Rattle.growth.proofs.GrowLaws.{grow_filled}
use Rattle.rows.proofs.FlatLaws.{length_trees}
use Rattle.growth.proofs.Lawful.{Lawful, lawful}
use Rattle.rows.proofs.PositionLaws.{rows_at_most}
use Rattle.rows.proofs.RangeLaws.{ranges_few}
use Rattle.rows.proofs.SmallLaws.{small_rows}
use Rattle.rows.proofs.TreeLaws.{AtMost, length_rows}
use Rattle.growth.proofs.GrowLaws.{grow_induction, grow_at_most, grow_full, leaf_order_permutes, leaf_order_length, leaf_order_within}
use Rattle.walk_steps.specs.Boxes.{query_of, meets_box}
use Rattle.walk_steps.specs.Step.{Lent, started}
use Rattle.walk.specs.Walks.{Outcome, walk_of, walk_from, ended, status_number, unread}
use Rattle.walk_steps.specs.declared.refusals.WalkRefusal.TheVariants.{BufferTooShort}
use Rattle.walk_steps.specs.declared.state.Sizes.{Sizes}
use Rattle.tree.specs.Pair.{outcome_of, Ordinary, box_values}
use Rattle.tree.specs.Visit.{hit_in, visit_parts, part_reads, Hits, FromHit}
use Rattle.tree.specs.WellFormed.{count_for}
use Rattle.tree.proofs.HitLaws.{grown_hits}
use Rattle.tree.proofs.MachineLaws.{Fit, Written, lent, Sound, Covers, walk_covers}
use Rattle.tree.proofs.MeetLaws.{part_hit}
use Rattle.tree.proofs.VisitLaws.{parts_all, parts_at_most, parts_from, parts_reads}

-- ---- the walk, by the tree

-- the walk's item count
abbrev pub item_count : Entries → ℕ → ℕ
item_count e th = count_for th e.number (length e.places)

unfoldable pub sizes_of : Entries → ℕ → Sizes
sizes_of e th = record { nodes = size (tree_of e th); trees = length (ranges range_limit 0 (tree_of e th)); items = item_count e th }

-- the items that some positions stand for
abbrev pub items_by : Entries → ℕ → List ℕ → List ℕ
items_by e th is = map (item_at th (leaf_order (tree_of e th))) is

-- What `Delivered` says of the records, of the tree.
pub record Visited (e : Entries) (th : ℕ) (query : Aabb) (room : ℕ) (o : Outcome) : Type 0 where
  pub refused_exactly : o.number ≡ cond (ltb room (item_count e th)) 2 0
  pub every_item_that_meets : Ordinary e → o.number ≡ 0 → (p : ℕ) → Memᴰ p e.places → meets_box (box_values (e.at p)) query ≡ true
      → occurrences p (items_by e th o.given) ≡ 1
  pub none_twice : (p : ℕ) → occurrences p (items_by e th o.given) ≤ 1
  pub only_present : (p : ℕ) → occurrences p (items_by e th o.given) ≤ occurrences p e.places
  pub from_leaves_that_meet : (i : ℕ) → Memᴰ i o.given
      → FromHit (hit_in query (scale_in (tree_of e th))) th (leaf_order (tree_of e th)) (rows 0 (tree_of e th)) i
  pub count_is : o.counts.handed ≡ length o.given
  pub reads_at_most : o.counts.reads ≤ size (tree_of e th) + length (ranges range_limit 0 (tree_of e th))

-- ---- the rows of a tree

pub small_member : (th : ℕ) (order : List ℕ) (rs : List Row) (r : Row) → SmallRows th order rs → Memᴰ r rs → Small th order r
small_member th order [] r s m = absurd (Memᴰ.not-nil m)
small_member th order (x ∷ rs) r s m = ⊎_elim (λ e. subst (Small th order) (sym e) s.0) (small_member th order rs r s.1) (Memᴰ.cases_cons m)

-- a leaf's positions lie within the leaf order
pub row_inside : (lo : ℕ) (t : Node) (r : Row) → Memᴰ r (rows lo t) → 0 < r.count → r.head + r.count ≤ lo + length (leaf_order t)
row_inside lo (leaf b ps) r m h = rw (Memᴰ.eq_of_singleton m) (omega arith)
row_inside lo (inner b l r₂) r m h =
    let both = length-append (leaf_order l) (leaf_order r₂) in
    ⊎_elim (λ e. absurd (let z : r.count ≡ 0 = ap (λ (x : Row). x.count) e in omega arith))
    (λ m'.
    ⊎_elim (λ m₁. omega (arith, row_inside lo l r m₁ h)) (λ m₂. omega (arith, row_inside (lo + length (leaf_order l)) r₂ r m₂ h))
    (Memᴰ.append_cases (rows lo l) m'))
    (Memᴰ.cases_cons m)

full_fit : (lo : ℕ) (t : Node) → Full t → Fit lo t
full_fit lo (leaf b ps) h = λ none. absurd (omega arith)
full_fit lo (inner b l r) h = (full_fit lo l h.0, full_fit (lo + length (leaf_order l)) r h.1)

filled_fit : (t : Node) → Filled t → Fit 0 t
filled_fit (leaf b ps) h = λ none. refl
filled_fit (inner b l r) h = (full_fit 0 l h.0, full_fit (0 + length (leaf_order l)) r h.1)

-- a tree's box is the fold of its places
grow_box : (at : ℕ → BoxWords) (th : ℕ) → 0 < th → (ps : List ℕ) → box_of (grow (builder at) th ps) ≡ fold_box at ps
grow_box at th some = grow_induction (builder at) (lawful at) th some (λ ps t. box_of t ≡ fold_box at ps) (λ ps h. refl) (λ ps l r h el er. refl)

-- within the limits a walk is refused only for its output
walk_runs : (box : Aabb) (cen inverse : Vec3) (z : Sizes) (nodes trees : List ℕ) (room : ℕ)
    → z.nodes ≤ 65535 → z.trees ≤ 65535 → z.items ≤ 65535 → 16 * z.nodes ≤ length nodes → 16 * z.trees ≤ length trees
    → walk_of box cen inverse z nodes trees room
    ≡ cond (ltb room z.items) (unread BufferTooShort)
    (ended (walk_from (record { query = query_of box cen inverse; sizes = z; nodes = nodes; trees = trees }) started))
unfolding walk_of
walk_runs box cen inverse z nodes trees room h₁ h₂ h₃ h₄ h₅ =
    rw (
      le-ltb 65535 z.nodes h₁,
      le-ltb 65535 z.trees h₂,
      le-ltb 65535 z.items h₃,
      le-ltb (length nodes) (16 * z.nodes) h₄,
      le-ltb (length trees) (16 * z.trees) h₅,
    )

-- What is known of a build that is not refused.
pub record Stands (e : Entries) (th : ℕ) : Type 0 where
  pub few : e.number ≤ 32767
  pub threshold : 0 < th
  pub nodes_few : size (tree_of e th) ≤ 32767
  pub rising : Rising 0 e.places
  pub below : Below e.number e.places
  pub present : length e.places ≤ e.number

module _ (e : Entries) (th : ℕ) (stands : Stands e th) where
  abbrev b : Builder
  b = builder e.at

  abbrev law : Lawful b
  law = lawful e.at

  abbrev t : Node
  t = grow b th e.places

  abbrev order : List ℕ
  order = leaf_order t

  pub size_few : size t ≤ 32767
  unfolding tree_of
  size_few = stands.nodes_few

  pub order_long : length order ≡ length e.places
  order_long = leaf_order_length b law th stands.threshold e.places

  order_below : Below e.number order
  order_below =
      within_below e.number order
      (leaf_order_within b law th stands.threshold (7 * e.number) e.places
      (below_within e.number (7 * e.number) e.places (omega arith) stands.below))

  pub at_most : AtMost th t
  at_most = grow_at_most b law th stands.threshold e.places

  pub rows_small : SmallRows th order (rows 0 t)
  rows_small =
      small_rows th t (below_wider e.number 32768 order (omega (arith, stands.few)) order_below)
      (omega (arith, order_long, stands.present, stands.few)) (omega (arith, size_few))

  pub inside_by : (q : Bool) → eqb th 1 ≡ q → (r : Row) → Memᴰ r (rows 0 t) → 0 < r.count
      → cond (eqb r.count 0) r.head (cond q (get_or order r.head 0) r.head) + r.count ≤ cond q e.number (length e.places)
  inside_by true one r m h =
      let some : eqb r.count 0 ≡ false = ne_eqb r.count 0 (λ z. omega arith) in
      let below = row_inside 0 t r m h in
      let place = below_at e.number order r.head order_below (omega (arith, order_long, stands.present)) in
      rw some (omega (arith, place, rows_at_most th 0 t at_most r m, eqb-true th 1 one))
  inside_by false many r m h =
      let some : eqb r.count 0 ≡ false = ne_eqb r.count 0 (λ z. omega arith) in
      rw some (omega (arith, row_inside 0 t r m h, order_long))

  -- A position of a leaf that is hit lies within the walk's item count; so above threshold 1 it is one of the order list's.
  pub handed_inside : (hit : BoxWords → Bool) (i : ℕ) → FromHit hit th order (rows 0 t) i → i < item_count e th
  handed_inside hit i f =
      let inside = inside_by (eqb th 1) refl f.row f.within (omega (arith, f.low, f.high)) in
      omega (arith, f.low, f.high, inside)

  -- ---- the walk

  module _ (query : Aabb) (nodes trees : List ℕ) where
    abbrev scale : Scale
    scale = scale_in t

    abbrev padding : List ℕ
    padding = pad_bytes (capacity_of th e.number (size t) - size t)

    -- the records as the walk gets them
    abbrev written : Written
    written =
        record {
          query = query_of query scale.cen scale.inverse;
          sizes = sizes_of e th;
          scale = scale;
          threshold = th;
          order = order;
          nodes = rows 0 t;
          trees = ranges range_limit 0 t;
          after_nodes = padding ++ drop (length (nodes_written e th)) nodes;
          after_trees = drop (length (trees_written e th)) trees;
        }

    -- the bytes as the walk gets them
    abbrev bytes : Lent
    bytes =
        record {
          query = query_of query scale.cen scale.inverse;
          sizes = sizes_of e th;
          nodes = over (nodes_written e th) nodes;
          trees = over (trees_written e th) trees;
        }

    lent_is : lent written ≡ bytes
    unfolding tree_of nodes_written trees_written_by
    lent_is =
        let nodes_are : nodes_bytes scale th order (rows 0 t) ++ (padding ++ drop (length (nodes_written e th)) nodes) ≡ over (nodes_written e th) nodes =
        sym (append_assoc (nodes_bytes scale th order (rows 0 t)) padding (drop (length (nodes_written e th)) nodes)) in
        λ i. record { query = bytes.query; sizes = bytes.sizes; nodes = nodes_are i; trees = bytes.trees }

    sound : (r : Row) → Memᴰ r (rows 0 t) → Sound written r
    unfolding sizes_of
    sound r m = record { small = small_member th order (rows 0 t) r rows_small m; inside = inside_by (eqb th 1) refl r m }

    items_enough : (q : Bool) → length order ≤ cond q e.number (length e.places)
    items_enough true = omega (arith, order_long, stands.present)
    items_enough false = omega (arith, order_long)

    limit_some : 0 < range_limit
    limit_some = omega arith

    covers : Covers written sound (parts range_limit 0 t)
    unfolding sizes_of tree_of
    covers =
        walk_covers written sound range_limit limit_some t
        (record {
          fit = filled_fit t (grow_filled b th e.places (grow_full b law th stands.threshold e.places));
          nodes_are = refl;
          trees_are = refl;
          nodes_number = refl;
          trees_number = refl;
          few_nodes = size_few;
          items_enough = items_enough (eqb th 1);
        })

    -- what was handed out
    abbrev given : List ℕ
    given = visit_parts (hit_in query scale) th order 0 (parts range_limit 0 t)

    whole_order : drop 0 order ≡ order ++ []
    whole_order = sym (append-nil order)

    given_once : (p : ℕ) → occurrences p (map (item_at th order) given) ≤ occurrences p e.places
    given_once p =
        let most = parts_at_most (hit_in query scale) th order range_limit limit_some p 0 t 0 [] at_most whole_order in
        omega (arith, most, leaf_order_permutes b law th stands.threshold e.places p)

    given_all : Ordinary e → (p : ℕ) → meets_box (box_values (e.at p)) query ≡ true
        → occurrences p e.places ≤ occurrences p (map (item_at th order) given)
    given_all ordinary p meets =
        let all = fold_box e.at e.places in
        let box_is : all ≡ box_of t = sym (grow_box e.at th stands.threshold e.places) in
        let fold-hits : (ps : List ℕ) → ((x : ℕ) → 0 < occurrences x ps → Among x e.places) → 0 < occurrences p ps
        → hit_in query scale (fold_box e.at ps) ≡ true =
        λ ps good held.
        subst (λ (c : BoxWords). hit_in query (scale_of_box c.min c.max) (fold_box e.at ps) ≡ true) box_is
        (part_hit e ordinary query p meets ps good held) in
        let hits : Hits (hit_in query scale) p t =
        grown_hits e.at th stands.threshold (hit_in query scale) p (λ x. Among x e.places) fold-hits e.places (λ x h. h) in
        let all_held = parts_all (hit_in query scale) th order range_limit limit_some p 0 t 0 [] hits at_most whole_order in
        omega (arith, all_held, leaf_order_permutes b law th stands.threshold e.places p)

    -- ---- the promises

    delivered_by : (room : ℕ) → ltb room (item_count e th) ≡ false → (o : Outcome) → o.number ≡ 0 → o.given ≡ given → o.counts.handed ≡ length given
        → o.counts.reads ≡ part_reads (hit_in query scale) (parts range_limit 0 t)
        → Visited e th query room o
    unfolding tree_of
    delivered_by room enough o en eg eh er =
        record {
          refused_exactly = en ∙ sym (ap (λ (q : Bool). cond q 2 0) enough);
          every_item_that_meets = λ ordinary z p m meets.
              let once = rising_once 0 p e.places stands.rising m in
              rw eg (omega (arith, given_once p, given_all ordinary p meets, once));
          none_twice = λ p. rw eg (omega (arith, given_once p, rising_at_most 0 p e.places stands.rising));
          only_present = λ p. rw eg (given_once p);
          from_leaves_that_meet = λ i m. parts_from (hit_in query scale) th order range_limit limit_some 0 t 0 i (subst (Memᴰ i) eg m);
          count_is = eh ∙ ap length (sym eg);
          reads_at_most = omega (arith, er, parts_reads (hit_in query scale) th order range_limit limit_some 0 t);
        }

    delivered_unread : (room : ℕ) → ltb room (item_count e th) ≡ true → Visited e th query room (unread BufferTooShort)
    unfolding tree_of
    delivered_unread room short =
        record {
          refused_exactly = sym (ap (λ (q : Bool). cond q 2 0) short);
          every_item_that_meets = λ ordinary z. absurd (omega arith);
          none_twice = λ p. omega arith;
          only_present = λ p. omega arith;
          from_leaves_that_meet = λ i m. absurd (Memᴰ.not-nil m);
          count_is = refl;
          reads_at_most = omega arith;
        }

    delivered_read : (room : ℕ) → ltb room (item_count e th) ≡ false → Visited e th query room (ended (walk_from bytes started))
    delivered_read room enough =
        delivered_by room enough (ended (walk_from bytes started))
        (ap (λ (l : Lent). status_number (walk_from l started).state.status) (sym lent_is) ∙ ap status_number covers.going_on)
        (ap (λ (l : Lent). (walk_from l started).given) (sym lent_is) ∙ covers.given_are)
        (ap (λ (l : Lent). (walk_from l started).state.handed) (sym lent_is) ∙ covers.handed_are)
        (ap (λ (l : Lent). (walk_from l started).state.reads) (sym lent_is) ∙ covers.reads_are)

    either : (room : ℕ) (q : Bool) → ltb room (item_count e th) ≡ q
        → Visited e th query room (cond q (unread BufferTooShort) (ended (walk_from bytes started)))
    either room true short = delivered_unread room short
    either room false enough = delivered_read room enough

    items_few : (q : Bool) → cond q e.number (length e.places) ≤ 65535
    items_few true = omega (arith, stands.few)
    items_few false = omega (arith, stands.few, stands.present)

    nodes_long : 16 * size t ≤ length (over (nodes_written e th) nodes)
    unfolding tree_of nodes_written
    nodes_long =
        let written = nodes_bytes scale th order (rows 0 t) in
        let all-long = length-append (written ++ padding) (drop (length (written ++ padding)) nodes) in
        omega (arith, all-long, length-append written padding, length_nodes scale th order (rows 0 t), length_rows 0 t)

    trees_long : 16 * length (ranges range_limit 0 t) ≤ length (over (trees_written e th) trees)
    unfolding tree_of trees_written_by
    trees_long =
        let written = trees_bytes scale (ranges range_limit 0 t) in
        omega (arith, length-append written (drop (length written) trees), length_trees scale (ranges range_limit 0 t))

    pub visited : (written-order : List ℕ) (room : ℕ)
        → Visited e th query room
        (outcome_of e th query (built_of e th (tree_of e th)) (outputs (over (nodes_written e th) nodes) (over (trees_written e th) trees) written-order) room)
    unfolding tree_of outcome_of sizes_of
    visited written-order room =
        let few_trees = ranges_few range_limit limit_some 0 t in
        let runs =
        walk_runs query scale.cen scale.inverse (sizes_of e th) bytes.nodes bytes.trees room
        (omega (arith, size_few)) (omega (arith, size_few, few_trees)) (items_few (eqb th 1)) nodes_long trees_long in
        subst (Visited e th query room) (sym runs)
        (either room (ltb room (item_count e th)) refl)
