-- What a visit hands out: each item at most as often as the tree holds it, an item whose nodes are all hit as often, only positions of leaves that are hit;
-- and how much it reads. By induction over the tree, and over its parts, at every limit from 1 on.
use Rattle.std.specs.Prelude.{◌≡◌, ℕ, zero, suc, ◌+◌, ◌<◌, ◌≤◌, Bool, true, false, cond, T, List, [], ◌∷◌, ◌++◌, map, length, drop}
use native.Mathlib.Omega.{arith}
use mathlib.Core.List.Memᴰ
use mathlib.Core.List.{map-append, append_assoc, append-nil}
use mathlib.Core.List.{Memᴰ}
use mathlib.Core.Logic.{⊎_elim}
use mathlib.Core.Path.{refl, sym, ap, ◌∙◌, subst}
use lib.ListN.{length-append, length-map}
use lib.Seq.{drop_at, drop-drop}
use Rattle.base.proofs.ListLaws.{occurs_append}
use Rattle.base.specs.Lists.{occurrences, up_from}
use Rattle.entries.specs.declared.boxes.BoxWords.{BoxWords}
use Rattle.base.proofs.NumberLaws.{length_up, up_within}
use Rattle.rows.specs.Output.{id_of}
use Rattle.rows.specs.Positions.{item_at}
use Rattle.rows.specs.Ranges.{Subtree, parts, range_of, ranges}
use Rattle.rows.specs.Rows.{Row, rows}
use Rattle.rows.specs.Tree.{Node, leaf, inner, box_of, leaf_order, size}
use Rattle.rows.proofs.PositionLaws.{leaf_items}
use Rattle.rows.proofs.RangeLaws.{parts_induction}
use Rattle.rows.proofs.TreeLaws.{AtMost}
use Rattle.tree.specs.Visit.{visit, visit_reads, visit_parts, range_reads, part_reads, Hits, FromHit}

-- ---- lists

-- how many items lie below some parts
abbrev items_below : List Subtree → ℕ
items_below [] = 0
items_below (p ∷ ps) = length (leaf_order p.root) + items_below ps

below_append : (ps qs : List Subtree) → items_below (ps ++ qs) ≡ items_below ps + items_below qs
below_append [] qs = omega arith
below_append (p ∷ ps) qs = omega (arith, below_append ps qs)

-- the parts of a tree hold its items
parts_items : (limit : ℕ) → 0 < limit → (at : ℕ) (t : Node) → items_below (parts limit at t) ≡ length (leaf_order t)
parts_items limit some =
    parts_induction limit some (λ at t ps. items_below ps ≡ length (leaf_order t))
    (λ at t h. omega arith)
    (λ at b l r h el er.
    omega (arith, below_append (parts limit (at + 1) l) (parts limit (at + 1 + size l) r), length-append (leaf_order l) (leaf_order r)))

-- the leaf order behind the first child's
second_order : (order : List ℕ) (lo : ℕ) (l r : Node) (rest : List ℕ) → drop lo order ≡ (leaf_order l ++ leaf_order r) ++ rest
    → drop (lo + length (leaf_order l)) order ≡ leaf_order r ++ rest
second_order order lo l r rest e =
    sym (drop-drop (length (leaf_order l)) lo order)
    ∙ ap (drop (length (leaf_order l))) (e ∙ append_assoc (leaf_order l) (leaf_order r) rest)
    ∙ drop_at (leaf_order l) (leaf_order r ++ rest) (length (leaf_order l)) refl

first_order : (order : List ℕ) (lo : ℕ) (l r : Node) (rest : List ℕ) → drop lo order ≡ (leaf_order l ++ leaf_order r) ++ rest
    → drop lo order ≡ leaf_order l ++ (leaf_order r ++ rest)
first_order order lo l r rest e = e ∙ append_assoc (leaf_order l) (leaf_order r) rest

-- what is not hit has none
missed : (n : ℕ) → (0 < n → false ≡ true) → n ≤ 0
missed zero h = omega arith
missed (suc n) h = absurd (subst T (sym (h (omega arith))) tt)

module _ (hit : BoxWords → Bool) (th : ℕ) (order : List ℕ) where
  abbrev items : List ℕ → List ℕ
  items is = map (item_at th order) is

  items_append : (p : ℕ) (xs ys : List ℕ) → occurrences p (items (xs ++ ys)) ≡ occurrences p (items xs) + occurrences p (items ys)
  items_append p xs ys = ap (occurrences p) (map-append (item_at th order) xs ys) ∙ occurs_append p (items xs) (items ys)

  -- ---- how often an item is handed out

  leaf_at_most : (q : Bool) (p lo : ℕ) (b : BoxWords) (ps rest : List ℕ) → length ps ≤ th → drop lo order ≡ ps ++ rest
      → occurrences p (items (cond q (up_from (id_of th order (record { box = b; head = lo; count = length ps })) (length ps)) [])) ≤ occurrences p ps
  leaf_at_most true p lo b ps rest most e = rw (leaf_items th order lo b ps rest most e) (omega arith)
  leaf_at_most false p lo b ps rest most e = omega arith

  sum_at_most : (q : Bool) (p : ℕ) (xs ys ps qs : List ℕ) → occurrences p (items xs) ≤ occurrences p ps → occurrences p (items ys) ≤ occurrences p qs
      → occurrences p (items (cond q (xs ++ ys) [])) ≤ occurrences p (ps ++ qs)
  sum_at_most true p xs ys ps qs h k = omega (arith, items_append p xs ys, occurs_append p ps qs)
  sum_at_most false p xs ys ps qs h k = omega arith

  pub visit_at_most : (p lo : ℕ) (t : Node) (rest : List ℕ) → AtMost th t → drop lo order ≡ leaf_order t ++ rest
      → occurrences p (items (visit hit th order lo t)) ≤ occurrences p (leaf_order t)
  visit_at_most p lo (leaf b ps) rest most e = leaf_at_most (hit b) p lo b ps rest most e
  visit_at_most p lo (inner b l r) rest most e =
      sum_at_most (hit b) p (visit hit th order lo l) (visit hit th order (lo + length (leaf_order l)) r) (leaf_order l) (leaf_order r)
      (visit_at_most p lo l (leaf_order r ++ rest) most.0 (first_order order lo l r rest e))
      (visit_at_most p (lo + length (leaf_order l)) r rest most.1 (second_order order lo l r rest e))

  -- ---- an item whose nodes are all hit

  leaf_all : (q : Bool) (p lo : ℕ) (b : BoxWords) (ps rest : List ℕ) → (0 < occurrences p ps → q ≡ true) → length ps ≤ th → drop lo order ≡ ps ++ rest
      → occurrences p ps ≤ occurrences p (items (cond q (up_from (id_of th order (record { box = b; head = lo; count = length ps })) (length ps)) []))
  leaf_all true p lo b ps rest h most e = rw (leaf_items th order lo b ps rest most e) (omega arith)
  leaf_all false p lo b ps rest h most e = missed (occurrences p ps) h

  sum_all : (q : Bool) (p : ℕ) (xs ys ps qs : List ℕ) → (0 < occurrences p (ps ++ qs) → q ≡ true)
      → occurrences p ps ≤ occurrences p (items xs) → occurrences p qs ≤ occurrences p (items ys)
      → occurrences p (ps ++ qs) ≤ occurrences p (items (cond q (xs ++ ys) []))
  sum_all true p xs ys ps qs h k₁ k₂ = omega (arith, items_append p xs ys, occurs_append p ps qs)
  sum_all false p xs ys ps qs h k₁ k₂ = missed (occurrences p (ps ++ qs)) h

  pub visit_all : (p lo : ℕ) (t : Node) (rest : List ℕ) → Hits hit p t → AtMost th t → drop lo order ≡ leaf_order t ++ rest
      → occurrences p (leaf_order t) ≤ occurrences p (items (visit hit th order lo t))
  visit_all p lo (leaf b ps) rest h most e = leaf_all (hit b) p lo b ps rest h most e
  visit_all p lo (inner b l r) rest h most e =
      sum_all (hit b) p (visit hit th order lo l) (visit hit th order (lo + length (leaf_order l)) r) (leaf_order l) (leaf_order r) h.0
      (visit_all p lo l (leaf_order r ++ rest) h.1 most.0 (first_order order lo l r rest e))
      (visit_all p (lo + length (leaf_order l)) r rest h.2 most.1 (second_order order lo l r rest e))

  -- ---- where positions come from

  from_leaf : (q : Bool) (lo i : ℕ) (b : BoxWords) (ps : List ℕ) → hit b ≡ q
      → Memᴰ i (cond q (up_from (id_of th order (record { box = b; head = lo; count = length ps })) (length ps)) [])
      → FromHit hit th order (rows lo (leaf b ps)) i
  from_leaf true lo i b ps e m =
      let row : Row = record { box = b; head = lo; count = length ps } in
      let h = up_within (length ps) (id_of th order row) i m in
      record { row = row; within = Memᴰ.head refl; meets = e; low = h.0; high = h.1 }
  from_leaf false lo i b ps e m = absurd (Memᴰ.not-nil m)

  from_more : {rs qs : List Row} {i : ℕ} → ((r : Row) → Memᴰ r rs → Memᴰ r qs) → FromHit hit th order rs i → FromHit hit th order qs i
  from_more sub f = record { row = f.row; within = sub f.row f.within; meets = f.meets; low = f.low; high = f.high }

  module _ (lo : ℕ) (b : BoxWords) (l r : Node) where
    abbrev second : ℕ
    second = lo + length (leaf_order l)

    in_first : {i : ℕ} → FromHit hit th order (rows lo l) i → FromHit hit th order (rows lo (inner b l r)) i
    in_first f = from_more (λ x m. Memᴰ.tail (Memᴰ.append_left (rows second r) m)) f

    in_second : {i : ℕ} → FromHit hit th order (rows second r) i → FromHit hit th order (rows lo (inner b l r)) i
    in_second f = from_more (λ x m. Memᴰ.tail (Memᴰ.append_right (rows lo l) m)) f

    in_either : (i : ℕ) (xs ys : List ℕ) → (Memᴰ i xs → FromHit hit th order (rows lo l) i)
        → (Memᴰ i ys → FromHit hit th order (rows second r) i)
        → Memᴰ i (xs ++ ys) → FromHit hit th order (rows lo (inner b l r)) i
    in_either i xs ys f g m = ⊎_elim (λ m'. in_first (f m')) (λ m'. in_second (g m')) (Memᴰ.append_cases xs m)

    in_chosen : (q : Bool) (i : ℕ) (xs ys : List ℕ) → (Memᴰ i xs → FromHit hit th order (rows lo l) i)
        → (Memᴰ i ys → FromHit hit th order (rows second r) i)
        → Memᴰ i (cond q (xs ++ ys) []) → FromHit hit th order (rows lo (inner b l r)) i
    in_chosen true i xs ys f g m = in_either i xs ys f g m
    in_chosen false i xs ys f g m = absurd (Memᴰ.not-nil m)

  pub visit_from : (lo : ℕ) (t : Node) (i : ℕ) → Memᴰ i (visit hit th order lo t) → FromHit hit th order (rows lo t) i
  visit_from lo (leaf b ps) i m = from_leaf (hit b) lo i b ps refl m
  visit_from lo (inner b l r) i m =
      in_chosen lo b l r (hit b) i (visit hit th order lo l) (visit hit th order (lo + length (leaf_order l)) r)
      (visit_from lo l i) (visit_from (lo + length (leaf_order l)) r i) m

  -- ---- how many positions, and how many readings

  leaf_few : (q : Bool) (k n : ℕ) → length (cond q (up_from k n) []) ≤ n
  leaf_few true k n = omega (arith, length_up k n)
  leaf_few false k n = omega arith

  sum_few : (q : Bool) (xs ys : List ℕ) (m n : ℕ) → length xs ≤ m → length ys ≤ n → length (cond q (xs ++ ys) []) ≤ m + n
  sum_few true xs ys m n h k = omega (arith, length-append xs ys)
  sum_few false xs ys m n h k = omega arith

  pub visit_few : (lo : ℕ) (t : Node) → length (visit hit th order lo t) ≤ length (leaf_order t)
  visit_few lo (leaf b ps) = leaf_few (hit b) (id_of th order (record { box = b; head = lo; count = length ps })) (length ps)
  visit_few lo (inner b l r) =
      rw (length-append (leaf_order l) (leaf_order r))
      (sum_few (hit b) (visit hit th order lo l) (visit hit th order (lo + length (leaf_order l)) r) (length (leaf_order l)) (length (leaf_order r))
      (visit_few lo l) (visit_few (lo + length (leaf_order l)) r))

  one_or : (q : Bool) (n : ℕ) → cond q n 0 ≤ n
  one_or true n = omega arith
  one_or false n = omega arith

  pub visit_reads_few : (t : Node) → visit_reads hit t ≤ size t
  visit_reads_few (leaf b ps) = omega arith
  visit_reads_few (inner b l r) = omega (arith, one_or (hit b) (visit_reads hit l + visit_reads hit r), visit_reads_few l, visit_reads_few r)

  -- ---- over the parts

  -- the parts of two trees, the second behind the first
  visit_append : (lo n : ℕ) (ps qs : List Subtree) → items_below ps ≡ n
      → visit_parts hit th order lo (ps ++ qs) ≡ visit_parts hit th order lo ps ++ visit_parts hit th order (lo + n) qs
  visit_append lo n [] qs e = ap (λ (k : ℕ). visit_parts hit th order k qs) (omega (arith, e))
  visit_append lo n (p ∷ ps) qs e =
      let m = length (leaf_order p.root) in
      let end : lo + m + items_below ps ≡ lo + n = omega (arith, e) in
      ap (λ (is : List ℕ). visit hit th order lo p.root ++ is)
      (visit_append (lo + m) (items_below ps) ps qs refl
      ∙ ap (λ (k : ℕ). visit_parts hit th order (lo + m) ps ++ visit_parts hit th order k qs) end)
      ∙ sym (append_assoc (visit hit th order lo p.root) (visit_parts hit th order (lo + m) ps) (visit_parts hit th order (lo + n) qs))

  pub reads_append : (ps qs : List Subtree) → part_reads hit (ps ++ qs) ≡ part_reads hit ps + part_reads hit qs
  reads_append [] qs = omega arith
  reads_append (p ∷ ps) qs = omega (arith, reads_append ps qs)

  range_reads_few : (t : Node) → range_reads hit t ≤ 1 + size t
  range_reads_few t = omega (arith, one_or (hit (box_of t)) (visit_reads hit t), visit_reads_few t)

  module _ (limit : ℕ) (limit_some : 0 < limit) where
    -- what the parts of a tree's two children hand out
    pub visit_both : (at lo : ℕ) (l r : Node)
        → visit_parts hit th order lo (parts limit (at + 1) l ++ parts limit (at + 1 + size l) r)
        ≡ visit_parts hit th order lo (parts limit (at + 1) l) ++ visit_parts hit th order (lo + length (leaf_order l)) (parts limit (at + 1 + size l) r)
    visit_both at lo l r =
        visit_append lo (length (leaf_order l)) (parts limit (at + 1) l) (parts limit (at + 1 + size l) r) (parts_items limit limit_some (at + 1) l)

    -- what holds of a visit, and of two children's together, holds of what the parts hand out
    module _ (P : ℕ → Node → List ℕ → Type 0) (whole : (lo : ℕ) (t : Node) → P lo t (visit hit th order lo t))
        (parted : (lo : ℕ) (b : BoxWords) (l r : Node) (xs ys : List ℕ)
        → P lo l xs → P (lo + length (leaf_order l)) r ys → P lo (inner b l r) (xs ++ ys)) where
      visits_induction : (at : ℕ) (t : Node) (lo : ℕ) → P lo t (visit_parts hit th order lo (parts limit at t))
      visits_induction =
          parts_induction limit limit_some (λ at t ps. (lo : ℕ) → P lo t (visit_parts hit th order lo ps))
          (λ at t h lo. subst (P lo t) (sym (append-nil (visit hit th order lo t))) (whole lo t))
          (λ at b l r h first second lo.
          subst (P lo (inner b l r)) (sym (visit_both at lo l r)) (parted lo b l r _ _ (first lo) (second (lo + length (leaf_order l)))))

    pub parts_at_most : (p at : ℕ) (t : Node) (lo : ℕ) (rest : List ℕ) → AtMost th t → drop lo order ≡ leaf_order t ++ rest
        → occurrences p (items (visit_parts hit th order lo (parts limit at t))) ≤ occurrences p (leaf_order t)
    parts_at_most p =
        visits_induction
        (λ lo t is. (rest : List ℕ) → AtMost th t → drop lo order ≡ leaf_order t ++ rest → occurrences p (items is) ≤ occurrences p (leaf_order t))
        (visit_at_most p)
        (λ lo b l r xs ys h k rest most e.
        sum_at_most true p xs ys (leaf_order l) (leaf_order r)
        (h (leaf_order r ++ rest) most.0 (first_order order lo l r rest e)) (k rest most.1 (second_order order lo l r rest e)))

    pub parts_all : (p at : ℕ) (t : Node) (lo : ℕ) (rest : List ℕ) → Hits hit p t → AtMost th t → drop lo order ≡ leaf_order t ++ rest
        → occurrences p (leaf_order t) ≤ occurrences p (items (visit_parts hit th order lo (parts limit at t)))
    parts_all p =
        visits_induction
        (λ lo t is.
        (rest : List ℕ) → Hits hit p t → AtMost th t → drop lo order ≡ leaf_order t ++ rest
        → occurrences p (leaf_order t) ≤ occurrences p (items is))
        (visit_all p)
        (λ lo b l r xs ys h k rest hits most e.
        sum_all true p xs ys (leaf_order l) (leaf_order r) (λ some. refl)
        (h (leaf_order r ++ rest) hits.1 most.0 (first_order order lo l r rest e))
        (k rest hits.2 most.1 (second_order order lo l r rest e)))

    pub parts_from : (at : ℕ) (t : Node) (lo i : ℕ) → Memᴰ i (visit_parts hit th order lo (parts limit at t))
        → FromHit hit th order (rows lo t) i
    parts_from =
        visits_induction (λ lo t is. (i : ℕ) → Memᴰ i is → FromHit hit th order (rows lo t) i) visit_from
        (λ lo b l r xs ys h k i m. in_either lo b l r i xs ys (h i) (k i) m)

    pub parts_few : (at : ℕ) (t : Node) (lo : ℕ) → length (visit_parts hit th order lo (parts limit at t)) ≤ length (leaf_order t)
    parts_few =
        visits_induction (λ lo t is. length is ≤ length (leaf_order t)) visit_few
        (λ lo b l r xs ys h k. omega (arith, length-append xs ys, length-append (leaf_order l) (leaf_order r)))

    reads_few : (at : ℕ) (t : Node) → part_reads hit (parts limit at t) ≤ size t + length (parts limit at t)
    reads_few =
        parts_induction limit limit_some (λ at t ps. part_reads hit ps ≤ size t + length ps)
        (λ at t h. omega (arith, range_reads_few t))
        (λ at b l r h first second.
        let xs = parts limit (at + 1) l in
        let ys = parts limit (at + 1 + size l) r in
        omega (arith, reads_append xs ys, length-append xs ys))

    -- at most as many readings as nodes and ranges
    pub parts_reads : (at : ℕ) (t : Node) → part_reads hit (parts limit at t) ≤ size t + length (ranges limit at t)
    parts_reads at t = omega (arith, reads_few at t, length-map (parts limit at t) range_of)
