-- The ranges cut a tree as the request's point 3 asks, at every limit from 1 on: each is one subtree of at most `limit` nodes, they rise and do not overlap,
-- and a node lies in exactly one of them, or in none where its subtree is larger. By induction over the two cases of `parts`.
use Prim.Native.Nat.{ℕ, zero, suc, ◌+◌, ◌-◌, ◌≤◌, ◌<◌}
use native.Mathlib.Omega.{arith}
use native.Mathlib.Nat.{add-zero, zero-add, suc-add}
use mathlib.Core.Bool.{Bool, true, false, cond, and-false}
use mathlib.Core.List.Memᴰ
use mathlib.Core.List.{List, [], ◌∷◌, ◌++◌, map, append_assoc, append-nil, map-append}
use mathlib.Core.List.{Memᴰ}
use mathlib.Core.Logic.{⊎_elim}
use mathlib.Core.Path.{◌≡◌, refl, sym, ap, ap₂, ◌∙◌, subst}
use lib.Dec.{leb, ltb}
use lib.ListN.{length, length-append}
use lib.Seq.{drop-append-le, drop-append-add}
use borrow.Author.Tests.{ltb-true, ltb-false, leb-true, leb-false, le-leb, lt-leb, lt-ltb, le-ltb}
use Rattle.base.specs.Lists.{up_from}
use Rattle.entries.specs.declared.boxes.BoxWords.{BoxWords}
use Rattle.rows.specs.Tree.{Node, leaf, inner, leaf_order, size}
use Rattle.rows.specs.Ranges.{Range, Subtree, parts, range_of, ranges, range_limit}
use Rattle.rows.specs.Rows.{Row, rows}
use Rattle.rows.specs.Numbers.{subtrees, leaf_numbers, holds, nodes_in, ranges_holding, RisingRanges, Part, RowsFrom, Cut}
use Rattle.rows.proofs.TreeLaws.{length_rows}

pub size_some : (t : Node) → 0 < size t
size_some (leaf b ps) = omega arith
size_some (inner b l r) = omega arith

-- ---- ranges that rise

rising_from : (lo lo' hi : ℕ) (rs : List Range) → lo ≤ lo' → RisingRanges lo' rs hi → RisingRanges lo rs hi
rising_from lo lo' hi [] h p = omega arith
rising_from lo lo' hi (r ∷ rs) h p = (omega arith, p.1, p.2)

rising_append : (lo mid hi : ℕ) (xs ys : List Range) → RisingRanges lo xs mid → RisingRanges mid ys hi → RisingRanges lo (xs ++ ys) hi
rising_append lo mid hi [] ys p q = rising_from lo mid hi ys p q
rising_append lo mid hi (x ∷ xs) ys p q = (p.0, p.1, rising_append x.last mid hi xs ys p.2 q)

holding_append : (k : ℕ) (xs ys : List Range) → ranges_holding k (xs ++ ys) ≡ ranges_holding k xs + ranges_holding k ys
holding_append k [] ys = omega arith
holding_append k (x ∷ xs) ys = omega (arith, holding_append k xs ys)

not_before : (k : ℕ) (x : Range) → k < x.first → holds k x ≡ false
not_before k x h = rw (lt-leb x.first k h)

not_after : (k : ℕ) (x : Range) → x.last ≤ k → holds k x ≡ false
not_after k x h = rw (le-ltb k x.last h) (and-false (leb x.first k))

between : (k : ℕ) (x : Range) → x.first ≤ k → k < x.last → holds k x ≡ true
between k x h h' = rw (le-leb x.first k h, lt-ltb k x.last h')

none_below : (k lo hi : ℕ) (rs : List Range) → RisingRanges lo rs hi → k < lo → ranges_holding k rs ≡ 0
none_below k lo hi [] p h = refl
none_below k lo hi (r ∷ rs) p h = rw (not_before k r (omega arith)) (omega (arith, none_below k r.last hi rs p.2 (omega arith)))

pub rising_ends : (lo hi : ℕ) (rs : List Range) → RisingRanges lo rs hi → lo ≤ hi
rising_ends lo hi [] p = p
rising_ends lo hi (r ∷ rs) p = omega (arith, rising_ends r.last hi rs p.2)

none_above : (k lo hi : ℕ) (rs : List Range) → RisingRanges lo rs hi → hi ≤ k → ranges_holding k rs ≡ 0
none_above k lo hi [] p h = refl
none_above k lo hi (r ∷ rs) p h =
    rw (not_after k r (omega (arith, rising_ends r.last hi rs p.2))) (omega (arith, none_above k r.last hi rs p.2 h))

one_at_most : (q : Bool) → cond {A = ℕ} q 1 0 ≤ 1
one_at_most true = omega arith
one_at_most false = omega arith

at_most_once_by : (k hi : ℕ) (r : Range) (rs : List Range) (q : Bool) → ltb k r.last ≡ q
    → RisingRanges r.last rs hi → ranges_holding k rs ≤ 1 → ranges_holding k (r ∷ rs) ≤ 1
at_most_once_by k hi r rs true e p h = omega (arith, none_below k r.last hi rs p (ltb-true _ _ e), one_at_most (holds k r))
at_most_once_by k hi r rs false e p h = rw (not_after k r (ltb-false _ _ e)) (omega arith)

at_most_once : (k lo hi : ℕ) (rs : List Range) → RisingRanges lo rs hi → ranges_holding k rs ≤ 1
at_most_once k lo hi [] p = omega arith
at_most_once k lo hi (r ∷ rs) p = at_most_once_by k hi r rs _ refl p.2 (at_most_once k r.last hi rs p.2)

-- ---- subtrees

root_in : (at : ℕ) (t : Node) → Memᴰ (record { number = at; root = t }) (subtrees at t)
root_in at (leaf b ps) = Memᴰ.head refl
root_in at (inner b l r) = Memᴰ.head refl

-- a subtree's nodes lie within the tree's
pub subtree_within : (at : ℕ) (t : Node) (s : Subtree) → Memᴰ s (subtrees at t)
    → (at ≤ s.number) × (s.number + size s.root ≤ at + size t)
subtree_within at (leaf b ps) s m = rw (Memᴰ.eq_of_singleton m) (omega arith, omega arith)
subtree_within at (inner b l r) s m =
    ⊎_elim (λ e. rw e (omega arith, omega arith))
    (λ m'.
    ⊎_elim
    (λ m₁. let p = subtree_within (at + 1) l s m₁ in (omega arith, omega arith))
    (λ m₂. let p = subtree_within (at + 1 + size l) r s m₂ in (omega arith, omega arith))
    (Memᴰ.append_cases (subtrees (at + 1) l) m'))
    (Memᴰ.cases_cons m)

-- a leaf's number is that of a subtree of one node
pub leaf_is_subtree : (at : ℕ) (t : Node) (k : ℕ) → Memᴰ k (leaf_numbers at t)
    → (s : Subtree) × Memᴰ s (subtrees at t) × (s.number ≡ k) × (size s.root ≡ 1)
leaf_is_subtree at (leaf b ps) k m =
    (record { number = at; root = leaf b ps }, Memᴰ.head refl, sym (Memᴰ.eq_of_singleton m), refl)
leaf_is_subtree at (inner b l r) k m =
    ⊎_elim
    (λ m₁. let p = leaf_is_subtree (at + 1) l k m₁ in (p.0, Memᴰ.tail (Memᴰ.append_left _ p.1), p.2, p.3))
    (λ m₂. let p = leaf_is_subtree (at + 1 + size l) r k m₂ in (p.0, Memᴰ.tail (Memᴰ.append_right (subtrees (at + 1) l) p.1), p.2, p.3))
    (Memᴰ.append_cases (leaf_numbers (at + 1) l) m)

-- ---- at a limit from 1 on

module _ (limit : ℕ) (limit_some : 0 < limit) where
  -- What holds of a tree of at most `limit` nodes as one part, and of a larger one if it holds of its children's parts, holds of the parts of every tree.
  module _ (P : ℕ → Node → List Subtree → Type 0)
      (whole : (at : ℕ) (t : Node) → size t ≤ limit → P at t (record { number = at; root = t } ∷ []))
      (parted : (at : ℕ) (b : BoxWords) (l r : Node) → limit < size (inner b l r)
      → P (at + 1) l (parts limit (at + 1) l) → P (at + 1 + size l) r (parts limit (at + 1 + size l) r)
      → P at (inner b l r) (parts limit (at + 1) l ++ parts limit (at + 1 + size l) r)) where
    inner_case : (at : ℕ) (b : BoxWords) (l r : Node) (q : Bool) → leb (size (inner b l r)) limit ≡ q
        → P (at + 1) l (parts limit (at + 1) l) → P (at + 1 + size l) r (parts limit (at + 1 + size l) r)
        → P at (inner b l r) (cond q (record { number = at; root = inner b l r } ∷ []) (parts limit (at + 1) l ++ parts limit (at + 1 + size l) r))
    inner_case at b l r true e pl pr = whole at (inner b l r) (leb-true _ _ e)
    inner_case at b l r false e pl pr = parted at b l r (leb-false _ _ e) pl pr

    pub parts_induction : (at : ℕ) (t : Node) → P at t (parts limit at t)
    parts_induction at (leaf b ps) = whole at (leaf b ps) (omega arith)
    parts_induction at (inner b l r) = inner_case at b l r _ refl (parts_induction (at + 1) l) (parts_induction (at + 1 + size l) r)

  -- the same of the ranges
  module _ (P : ℕ → Node → List Range → Type 0)
      (one : (at : ℕ) (t : Node) → size t ≤ limit → P at t (range_of (record { number = at; root = t }) ∷ []))
      (both : (at : ℕ) (b : BoxWords) (l r : Node) → limit < size (inner b l r)
      → P (at + 1) l (ranges limit (at + 1) l) → P (at + 1 + size l) r (ranges limit (at + 1 + size l) r)
      → P at (inner b l r) (ranges limit (at + 1) l ++ ranges limit (at + 1 + size l) r)) where
    pub ranges_induction : (at : ℕ) (t : Node) → P at t (ranges limit at t)
    ranges_induction =
        parts_induction (λ at t ps. P at t (map range_of ps)) one
        (λ at b l r h pl pr.
        subst (P at (inner b l r)) (sym (map-append range_of (parts limit (at + 1) l) (parts limit (at + 1 + size l) r))) (both at b l r h pl pr))

  -- ---- how many

  -- Up to `limit` nodes are one range.
  pub small_one_range : (at : ℕ) (t : Node) → size t ≤ limit → ranges limit at t ≡ range_of (record { number = at; root = t }) ∷ []
  small_one_range at (leaf b ps) h = refl
  small_one_range at (inner b l r) h = rw (le-leb (size (inner b l r)) limit h)

  -- There are at most as many ranges as nodes.
  pub ranges_few : (at : ℕ) (t : Node) → length (ranges limit at t) ≤ size t
  ranges_few =
      ranges_induction (λ at t rs. length rs ≤ size t)
      (λ at t h. size_some t)
      (λ at b l r h hl hr. omega (arith, length-append (ranges limit (at + 1) l) (ranges limit (at + 1 + size l) r)))

  -- ---- order

  -- The ranges rise, do not overlap, and lie within the tree's nodes.
  pub ranges_rise : (at : ℕ) (t : Node) → RisingRanges at (ranges limit at t) (at + size t)
  ranges_rise =
      ranges_induction (λ at t rs. RisingRanges at rs (at + size t))
      (λ at t h. (omega arith, omega (arith, size_some t), omega arith))
      (λ at b l r h pl pr.
      let e : at + (1 + size l + size r) ≡ at + 1 + size l + size r = omega arith in
      let xs : List Range = ranges limit (at + 1) l in
      let ys : List Range = ranges limit (at + 1 + size l) r in
      rw e
      (rising_from at (at + 1) (at + 1 + size l + size r) (xs ++ ys) (omega arith)
      (rising_append (at + 1) (at + 1 + size l) (at + 1 + size l + size r) xs ys pl pr)))

  -- ---- a range is a subtree

  -- in the tree's own numbering, what stands in a child stands in the tree
  in_first : (at : ℕ) (b : BoxWords) (l r : Node) (x : Range) → Part limit (at + 1) l x → Part limit at (inner b l r) x
  in_first at b l r x p =
      record { subtree = p.subtree; within = Memᴰ.tail (Memᴰ.append_left _ p.within); small = p.small; range_is = p.range_is }

  in_second : (at : ℕ) (b : BoxWords) (l r : Node) (x : Range) → Part limit (at + 1 + size l) r x → Part limit at (inner b l r) x
  in_second at b l r x p =
      record {
        subtree = p.subtree;
        within = Memᴰ.tail (Memᴰ.append_right (subtrees (at + 1) l) p.within);
        small = p.small;
        range_is = p.range_is;
      }

  -- Each range is exactly the nodes of one subtree of at most `limit` nodes, with its box.
  pub range_is_subtree : (at : ℕ) (t : Node) (x : Range) → Memᴰ x (ranges limit at t) → Part limit at t x
  range_is_subtree =
      ranges_induction (λ at t rs. (x : Range) → Memᴰ x rs → Part limit at t x)
      (λ at t h x m.
      record { subtree = record { number = at; root = t }; within = root_in at t; small = h; range_is = Memᴰ.eq_of_singleton m })
      (λ at b l r h pl pr x m.
      ⊎_elim (λ m₁. in_first at b l r x (pl x m₁)) (λ m₂. in_second at b l r x (pr x m₂)) (Memᴰ.append_cases (ranges limit (at + 1) l) m))

  -- No range has more than `limit` nodes, and each has one.
  pub range_size : (at : ℕ) (t : Node) (x : Range) → Memᴰ x (ranges limit at t) → (0 < nodes_in x) × (nodes_in x ≤ limit)
  range_size at t x m =
      let p : Part limit at t x = range_is_subtree at t x m in
      let s : Subtree = p.subtree in
      rw p.range_is (omega (arith, size_some s.root, p.small), omega (arith, p.small))

  -- ---- which range a node lies in

  -- How many of the ranges rs hold a subtree's node: one if the subtree has at most `limit` nodes, else none.
  abbrev Once : Subtree → List Range → Type 0
  Once s rs = ranges_holding s.number rs ≡ cond (leb (size s.root) limit) 1 0

  -- in a part of its own every node of the tree lies once
  once_whole : (at : ℕ) (t : Node) → size t ≤ limit → (s : Subtree) → Memᴰ s (subtrees at t)
      → Once s (range_of (record { number = at; root = t }) ∷ [])
  once_whole at t h s m =
      let w = subtree_within at t s m in
      let z = size_some s.root in
      rw (between s.number (range_of (record { number = at; root = t })) (omega arith) (omega arith), le-leb (size s.root) limit (omega arith))

  module _ (at : ℕ) (b : BoxWords) (l r : Node) (big : limit < size (inner b l r)) where
    -- the children's ranges, and what holds a number in them
    abbrev firsts : List Range
    firsts = ranges limit (at + 1) l

    abbrev seconds : List Range
    seconds = ranges limit (at + 1 + size l) r

    sum : (k x y : ℕ) → ranges_holding k firsts ≡ x → ranges_holding k seconds ≡ y → ranges_holding k (firsts ++ seconds) ≡ x + y
    sum k x y ex ey = holding_append k firsts seconds ∙ ap₂ ◌+◌ ex ey

    before_first : (k : ℕ) → k < at + 1 → ranges_holding k firsts ≡ 0
    before_first k h = none_below k (at + 1) (at + 1 + size l) firsts (ranges_rise (at + 1) l) h

    before_second : (k : ℕ) → k < at + 1 + size l → ranges_holding k seconds ≡ 0
    before_second k h = none_below k (at + 1 + size l) (at + 1 + size l + size r) seconds (ranges_rise (at + 1 + size l) r) h

    after_first : (k : ℕ) → at + 1 + size l ≤ k → ranges_holding k firsts ≡ 0
    after_first k h = none_above k (at + 1) (at + 1 + size l) firsts (ranges_rise (at + 1) l) h

    once_root : (s : Subtree) → s ≡ record { number = at; root = inner b l r } → Once s (firsts ++ seconds)
    once_root s e =
        rw (e, lt-leb (size (inner b l r)) limit big) (sum at 0 0 (before_first at (omega arith)) (before_second at (omega arith)))

    once_first : (s : Subtree) → Memᴰ s (subtrees (at + 1) l) → Once s firsts → Once s (firsts ++ seconds)
    once_first s m e =
        let w = subtree_within (at + 1) l s m in
        let z = size_some s.root in
        sum s.number _ 0 e (before_second s.number (omega arith)) ∙ omega arith

    once_second : (s : Subtree) → Memᴰ s (subtrees (at + 1 + size l) r) → Once s seconds → Once s (firsts ++ seconds)
    once_second s m e =
        let w = subtree_within (at + 1 + size l) r s m in
        sum s.number 0 _ (after_first s.number (omega arith)) e ∙ omega arith

  once : (at : ℕ) (t : Node) (s : Subtree) → Memᴰ s (subtrees at t) → Once s (ranges limit at t)
  once =
      ranges_induction (λ at t rs. (s : Subtree) → Memᴰ s (subtrees at t) → Once s rs)
      once_whole
      (λ at b l r h pl pr s m.
      ⊎_elim (once_root at b l r h s)
      (λ m'.
      ⊎_elim (λ m₁. once_first at b l r h s m₁ (pl s m₁)) (λ m₂. once_second at b l r h s m₂ (pr s m₂))
      (Memᴰ.append_cases (subtrees (at + 1) l) m'))
      (Memᴰ.cases_cons m))

  -- A node of at most `limit` nodes lies in exactly one range.
  pub small_held_once : (at : ℕ) (t : Node) (s : Subtree) → Memᴰ s (subtrees at t) → size s.root ≤ limit
      → ranges_holding s.number (ranges limit at t) ≡ 1
  small_held_once at t s m h = once at t s m ∙ rw (le-leb (size s.root) limit h)

  -- A larger one lies in none.
  pub large_held_never : (at : ℕ) (t : Node) (s : Subtree) → Memᴰ s (subtrees at t) → limit < size s.root
      → ranges_holding s.number (ranges limit at t) ≡ 0
  large_held_never at t s m h = once at t s m ∙ rw (lt-leb (size s.root) limit h)

  -- The root of more than `limit` nodes lies in no range.
  pub large_root_free : (at : ℕ) (t : Node) → limit < size t → ranges_holding at (ranges limit at t) ≡ 0
  large_root_free at t h = large_held_never at t (record { number = at; root = t }) (root_in at t) h

  -- No number lies in two ranges.
  pub held_at_most_once : (at : ℕ) (t : Node) (k : ℕ) → ranges_holding k (ranges limit at t) ≤ 1
  held_at_most_once at t k = at_most_once k at (at + size t) (ranges limit at t) (ranges_rise at t)

  -- Each leaf lies in exactly one range.
  pub leaf_held_once : (at : ℕ) (t : Node) (k : ℕ) → Memᴰ k (leaf_numbers at t) → ranges_holding k (ranges limit at t) ≡ 1
  leaf_held_once at t k m =
      let p = leaf_is_subtree at t k m in
      rw (← p.2) (small_held_once at t p.0 p.1 (omega (arith, p.3)))

  -- All of it in one statement.
  pub ranges_cut : (t : Node) → Cut limit t (ranges limit 0 t)
  ranges_cut t =
      record {
        sizes = range_size 0 t;
        rising = rw (zero-add (size t)) at (ranges_rise 0 t);
        parts = range_is_subtree 0 t;
        leaves = leaf_held_once 0 t;
      }

-- ---- at the limit of a build

-- 127 nodes are one range.
pub whole_at_127 : (t : Node) → size t ≡ 127 → length (ranges range_limit 0 t) ≡ 1
whole_at_127 t e = ap length (small_one_range range_limit (omega arith) 0 t (omega arith))

-- Of 129 nodes node 0 lies in no range.
pub root_free_at_129 : (t : Node) → size t ≡ 129 → ranges_holding 0 (ranges range_limit 0 t) ≡ 0
root_free_at_129 t e = large_root_free range_limit (omega arith) 0 t (omega arith)

-- ---- numbers and rows

up_from_append_lem : (at m n : ℕ) → up_from at m ++ up_from (at + m) n ≡ up_from at (m + n)
up_from_append_lem at zero n = rw (add-zero, zero-add)
up_from_append_lem at (suc m) n =
    let e : at + suc m ≡ at + 1 + m = omega arith in
    rw (e, suc-add) (ap (λ (l : List ℕ). at ∷ l) (up_from_append_lem (at + 1) m n))

-- The subtrees' numbers are those from the root's on: so the nodes of a range's subtree are the numbers from first to last − 1.
pub numbers_are : (at : ℕ) (t : Node) → map (λ s. s.number) (subtrees at t) ≡ up_from at (size t)
numbers_are at (leaf b ps) = refl
numbers_are at (inner b l r) =
    let e : 1 + size l + size r ≡ suc (size l + size r) = omega arith in
    let split = map-append (λ (s : Subtree). s.number) (subtrees (at + 1) l) (subtrees (at + 1 + size l) r) in
    rw (e, split, numbers_are (at + 1) l, numbers_are (at + 1 + size l) r)
    (ap (λ (ns : List ℕ). at ∷ ns) (up_from_append_lem (at + 1) (size l) (size r)))

-- in a list that goes on, and behind one that went before
more_rows : (k : ℕ) (t : Node) (xs ys : List Row) → k ≤ length xs → RowsFrom k t xs → RowsFrom k t (xs ++ ys)
more_rows k t xs ys h p =
    record {
      position = p.position;
      rest = p.rest ++ ys;
      rows_are = drop-append-le k xs ys h ∙ ap (λ (l : List Row). l ++ ys) p.rows_are ∙ append_assoc (rows p.position t) p.rest ys;
    }

rows_behind : (k n : ℕ) (t : Node) (xs ys : List Row) → k ≡ length xs + n → RowsFrom n t ys → RowsFrom k t (xs ++ ys)
rows_behind k n t xs ys e p = record { position = p.position; rest = p.rest; rows_are = rw e (drop-append-add xs ys n ∙ p.rows_are) }

one_more : (k : ℕ) (t : Node) (x : Row) (xs : List Row) → RowsFrom k t xs → RowsFrom (suc k) t (x ∷ xs)
one_more k t x xs p = record { position = p.position; rest = p.rest; rows_are = p.rows_are }

below_root : (at : ℕ) (b : BoxWords) (l r : Node) (s : Subtree) → Memᴰ s (subtrees (at + 1) l ++ subtrees (at + 1 + size l) r) → at < s.number
below_root at b l r s m =
    ⊎_elim (λ m₁. omega (arith, (subtree_within (at + 1) l s m₁).0)) (λ m₂. omega (arith, (subtree_within (at + 1 + size l) r s m₂).0))
    (Memᴰ.append_cases (subtrees (at + 1) l) m)

subtree_rows_by : (at lo : ℕ) (t : Node) (s : Subtree) (k : ℕ) → at + k ≡ s.number → Memᴰ s (subtrees at t) → RowsFrom k s.root (rows lo t)
subtree_rows_by at lo (leaf b ps) s k e m =
    let q : s ≡ record { number = at; root = leaf b ps } = Memᴰ.eq_of_singleton m in
    let z : k ≡ 0 = omega (arith, ap (λ (x : Subtree). x.number) q) in
    rw (z, q) (record { position = lo; rest = []; rows_are = refl })
subtree_rows_by at lo (inner b l r) s zero e m =
    ⊎_elim
    (λ q. rw q (record { position = lo; rest = []; rows_are = sym (append-nil (rows lo (inner b l r))) }))
    (λ m'. absurd (omega (arith, below_root at b l r s m')))
    (Memᴰ.cases_cons m)
subtree_rows_by at lo (inner b l r) s (suc k) e m =
    let hi : ℕ = lo + length (leaf_order l) in
    let n : length (rows lo l) ≡ size l = length_rows lo l in
    ⊎_elim
    (λ q. absurd (omega (arith, ap (λ (x : Subtree). x.number) q)))
    (λ m'.
    one_more k s.root _ (rows lo l ++ rows hi r)
    (⊎_elim
    (λ m₁.
    let w = subtree_within (at + 1) l s m₁ in
    more_rows k s.root (rows lo l) (rows hi r) (omega arith) (subtree_rows_by (at + 1) lo l s k (omega arith) m₁))
    (λ m₂.
    let w = subtree_within (at + 1 + size l) r s m₂ in
    rows_behind k (k - size l) s.root (rows lo l) (rows hi r) (omega arith) (subtree_rows_by (at + 1 + size l) hi r s (k - size l) (omega arith) m₂))
    (Memᴰ.append_cases (subtrees (at + 1) l) m')))
    (Memᴰ.cases_cons m)

-- The rows of a subtree stand from its number on.
pub subtree_rows : (lo : ℕ) (t : Node) (s : Subtree) → Memᴰ s (subtrees 0 t) → RowsFrom s.number s.root (rows lo t)
subtree_rows lo t s m = subtree_rows_by 0 lo t s s.number (omega arith) m
