-- The loops about the marking: zeros, the numbers from 0 on, and the list of what is unmarked; and that the unmarked are the list.
use mathlib.Core.Path.{◌≡◌, refl, sym, ap, ◌∙◌, subst}
use mathlib.Core.Logic.{◌⊎◌, inl, inr}
use mathlib.Core.Bool.{Bool, true, false, not, cond, ◌||◌}
use mathlib.Core.List.{List, [], ◌∷◌, ◌++◌, append-nil}
use Prim.Native.Nat.{ℕ, zero, suc, ◌+◌, ◌≤◌, ◌<◌}
use native.Mathlib.Omega.{arith}
use native.Mathlib.Decide.{dec_lt}
use native.Mathlib.Numerals.{add-one}
use borrow.Author.Tests.{eq-eqb, eqb-true, eqb-false, lt-ltb, le-ltb, ltb-true}
use lib.Dec.{eqb, ltb}
use lib.ListN.{length, get_or, set, take, drop, length-set, length-append, length-drop}
use lib.Seq.{take_all, take-suc-set, get_or-set_same, get_or-set_other, drop-cons, set_at, append_snoc}
use Rattle.base.specs.Lists.{one_if, sift, occurrences, Below}
use Rattle.base.specs.Sorted.{sort, InOrder}
use Rattle.base.proofs.EveryLaws.{every_append}
use Rattle.base.proofs.ListLaws.{length_kept, occurs_more, one_or_none}
use Rattle.base.proofs.NumberLaws.{below_wider}
use Rattle.base.proofs.SortLaws.{sort_every, sort_in_order, sort_permutes}
use Rattle.shadows.specs.Kept.{kept_of}
use Rattle.shadows.specs.Maxima.{numbers, listed}
use Rattle.shadows.proofs.Truth.{decide, never}
use Rattle.shadows.proofs.Below.{Last, sooner, last, last_or, sift_append, sift_alike}
use Rattle.far_order.specs.Rows.{shadowed_at, Rows, Written}
use Rattle.far_order.specs.Steps.Order.{le_by}
use Rattle.maxima.specs.Steps.Marking.{member, covers_in, hidden, Marked, Sifted, Clear}
use Rattle.far_order.proofs.OrderLaws.{ordered_by}
use Rattle.maxima.proofs.SweepLaws.{BeforeAll, FarFirst, at_most_before, are_maxima, listed_is_unhidden}
use Rattle.maxima.proofs.MarkingLaws.{some_sorted}

counted : (p : ℕ → Bool) (n : ℕ) → length (sift p (numbers (suc n))) ≡ length (sift p (numbers n)) + one_if (p n)
counted p n =
    ap length (sift_append p (numbers n) (n ∷ []))
    ∙ length-append (sift p (numbers n)) (sift p (n ∷ []))
    ∙ ap (λ (z : ℕ). length (sift p (numbers n)) + z) (length_kept (p n) n [] ∙ zero_more (one_if (p n)))
  where
    zero_more : (k : ℕ) → k + 0 ≡ k
    zero_more k = omega arith

-- ---- zeros

pub record Clearing (n : ℕ) (before now : List ℕ) (i : ℕ) : Type 0 where
  pub size : length now ≡ length before
  pub upto : i ≤ n
  pub zeros : (p : ℕ) → p < i → get_or now p 0 ≡ 0

pub clear_more : (n : ℕ) (before now : List ℕ) (i : ℕ) → Clearing n before now i → i < n → n ≤ length before
    → Clearing n before (set now i 0) (i + 1)
clear_more n before now i c h room =
    record { size = length-set now i 0 ∙ c.size; upto = omega arith; zeros = λ p l. go p (last_or i p (omega arith)) }
  where
    go : (p : ℕ) → Last i p → get_or (set now i 0) p 0 ≡ 0
    go p (sooner l) = get_or-set_other now i p 0 0 (λ e. omega arith) ∙ c.zeros p l
    go p (last e) = ap (λ (k : ℕ). get_or (set now i 0) k 0) e ∙ get_or-set_same now i 0 0 (omega (arith, c.size))

pub cleared : (n : ℕ) (before now : List ℕ) (i : ℕ) → Clearing n before now i → n ≤ i → n ≤ length before → Clear n now
cleared n before now i c h room = record { size = omega (arith, c.size); zeros = λ p l. c.zeros p (omega arith) }

-- ---- the numbers from 0 on

pub record Counting (before now : List ℕ) (i : ℕ) : Type 0 where
  pub size : length now ≡ length before
  pub upto : i ≤ length before
  pub so_far : take i now ≡ numbers i

pub count_more_lem : (before now : List ℕ) (i : ℕ) → Counting before now i → i < length before → Counting before (set now i i) (i + 1)
count_more_lem before now i c h =
    record {
      size = length-set now i i ∙ c.size;
      upto = omega arith;
      so_far = rw add-one (take-suc-set now i i (omega (arith, c.size)) ∙ ap (λ (l : List ℕ). l ++ (i ∷ [])) c.so_far);
    }

pub counted_up : (before now : List ℕ) (i : ℕ) → Counting before now i → length before ≤ i → now ≡ numbers (length before)
counted_up before now i c h =
    let e : i ≡ length before = omega (arith, c.upto) in
    sym (take_all i now (omega (arith, c.size))) ∙ c.so_far ∙ ap numbers e

-- ---- what passes, written out

pub record Listing (p : ℕ → Bool) (n : ℕ) (before now : List ℕ) (count i : ℕ) : Type 0 where
  pub upto : i ≤ n
  pub few : count ≤ i
  pub count_is : count ≡ length (sift p (numbers i))
  pub list : now ≡ sift p (numbers i) ++ drop count before

pub unlisted : (p : ℕ → Bool) (n : ℕ) (before : List ℕ) → Listing p n before before 0 0
unlisted p n before = record { upto = omega arith; few = omega arith; count_is = refl; list = refl }

module _ (p : ℕ → Bool) (n : ℕ) (before now : List ℕ) (count i : ℕ) (l : Listing p n before now count i) (more : i < n) (room : n ≤ length before) where
  pub list_room : count < length now
  list_room = omega (arith, ap length l.list, length-append (sift p (numbers i)) (drop count before), length-drop count before, l.few, l.count_is)

  sifted_next : (b : Bool) → p i ≡ b → sift p (numbers (i + 1)) ≡ sift p (numbers i) ++ cond b (i ∷ []) []
  sifted_next b e = rw add-one (sift_append p (numbers i) (i ∷ []) ∙ ap (λ (t : Bool). sift p (numbers i) ++ cond t (i ∷ []) []) e)

  counted_next : (b : Bool) → p i ≡ b → length (sift p (numbers (i + 1))) ≡ length (sift p (numbers i)) + one_if b
  counted_next b e = rw add-one (counted p i ∙ ap (λ (t : Bool). length (sift p (numbers i)) + one_if t) e)

  pub skip : p i ≡ false → Listing p n before now count (i + 1)
  skip e =
      record {
        upto = omega arith;
        few = omega (arith, l.few);
        count_is = omega (arith, l.count_is, counted_next false e);
        list = l.list ∙ ap (λ (x : List ℕ). x ++ drop count before) (sym (sifted_next false e ∙ append-nil (sift p (numbers i))));
      }

  pub write : p i ≡ true → Listing p n before (set now count i) (count + 1) (i + 1)
  write e =
      let d : drop count before ≡ get_or before count 0 ∷ drop (suc count) before = drop-cons before count 0 (omega (arith, l.few)) in
      let s : set now count i ≡ sift p (numbers i) ++ (i ∷ drop (suc count) before) =
      ap (λ (x : List ℕ). set x count i) (l.list ∙ ap (λ (x : List ℕ). sift p (numbers i) ++ x) d)
      ∙ set_at (sift p (numbers i)) (get_or before count 0) (drop (suc count) before) i count (sym l.count_is) in
      record {
        upto = omega arith;
        few = omega (arith, l.few);
        count_is = omega (arith, l.count_is, counted_next true e);
        list = s ∙ sym (append_snoc (sift p (numbers i)) i (drop (suc count) before)) ∙ sym (rw (sifted_next true e, add-one count));
      }

pub all_listed : (p : ℕ → Bool) (n : ℕ) (before now : List ℕ) (count i : ℕ) → Listing p n before now count i → n ≤ i
    → Written (sift p (numbers n)) before now count
all_listed p n before now count i l h =
    let e : i ≡ n = omega (arith, l.upto) in
    let c : count ≡ length (sift p (numbers n)) = rw e at l.count_is in
    record { count = c; list = rw (← c) (rw e at l.list) }

pub listing_length : (p : ℕ → Bool) (n : ℕ) (before now : List ℕ) (count i : ℕ) → Listing p n before now count i → n ≤ length before
    → length now ≡ length before
listing_length p n before now count i l room = omega
    (arith, ap length l.list, length-append (sift p (numbers i)) (drop count before), length-drop count before, l.few, l.upto, l.count_is)

-- ---- the numbers 0 to n − 1

once_below : (n p : ℕ) → occurrences p (numbers n) ≡ one_if (ltb p n)
once_below zero p = ap one_if (sym (le-ltb p 0 (omega arith)))
once_below (suc n) p =
    counted (λ q. eqb q p) n ∙ ap (λ (k : ℕ). k + one_if (eqb n p)) (once_below n p) ∙ go (dec_lt p n) (decide (eqb n p))
  where
    other : (n ≡ p → ⊥) → Dec (n < p) → (p < n → ⊥) → suc n ≤ p
    other d (yes x) h = x
    other d (no x) h = absurd (d (omega arith))

    go : Dec (p < n) → (eqb n p ≡ true) ⊎ (eqb n p ≡ false) → one_if (ltb p n) + one_if (eqb n p) ≡ one_if (ltb p (suc n))
    go (yes h) (inl e) = let f = eqb-true n p e in absurd (omega arith)
    go (yes h) (inr e) = rw (e, lt-ltb p n h, lt-ltb p (suc n) (omega arith))
    go (no h) (inl e) = let f = eqb-true n p e in rw (e, le-ltb p n (omega arith), lt-ltb p (suc n) (omega arith))
    go (no h) (inr e) =
        let g : suc n ≤ p = other (eqb-false n p e) (dec_lt n p) h in
        rw (e, le-ltb p n (omega arith), le-ltb p (suc n) g)

some_occurs : (p : ℕ) (ps : List ℕ) → member p ps ≡ ltb 0 (occurrences p ps)
some_occurs p [] = refl
some_occurs p (q ∷ ps) = go (eqb q p) (some_occurs p ps)
  where
    go : (b : Bool) → member p ps ≡ ltb 0 (occurrences p ps)
        → (b || member p ps) ≡ ltb 0 (length (cond b (q ∷ sift (λ r. eqb r p) ps) (sift (λ r. eqb r p) ps)))
    go true h = sym (lt-ltb 0 (suc (occurrences p ps)) (omega arith))
    go false h = h

pub numbers_below : (n : ℕ) → Below n (numbers n)
numbers_below zero = tt
numbers_below (suc n) =
    every_append (λ x. x < suc n) (numbers n) (n ∷ []) (below_wider n (suc n) (numbers n) (omega arith) (numbers_below n)) (omega arith, tt)

sorted_members : (le : ℕ → ℕ → Bool) (n p : ℕ) → member p (sort le (numbers n)) ≡ ltb p n
sorted_members le n p =
    some_sorted le (λ q. eqb q p) (numbers n) ∙ some_occurs p (numbers n) ∙ ap (ltb 0) (once_below n p) ∙ go (ltb p n)
  where
    go : (b : Bool) → ltb 0 (one_if b) ≡ b
    go true = lt-ltb 0 1 (omega arith)
    go false = le-ltb 0 0 (omega arith)

-- ---- the sorted list has the furthest first

module _ (n : ℕ) (rows : List ℕ) where
  left_false : (a b : Bool) → (a || b) ≡ false → a ≡ false
  left_false true b e = e
  left_false false b e = refl

  right_false : (a b : Bool) → (a || b) ≡ false → b ≡ false
  right_false true b e = never refl e
  right_false false b e = e

  -- p, which is at most the first of a list in order and does not stand there, comes before all of it
  before_rest : (p q : ℕ) (qs : List ℕ) → le_by false n rows p q ≡ true → InOrder (le_by false n rows) (q ∷ qs) → member p (q ∷ qs) ≡ false
      → BeforeAll n rows p (q ∷ qs)
  unfolding le_by
  before_rest p q [] h r m =
      (at_most_before n rows p q (λ e. never (eq-eqb q p (sym e)) (left_false (eqb q p) false m)) h, tt)
  before_rest p q (s ∷ qs) h r m = (
    at_most_before n rows p q (λ e. never (eq-eqb q p (sym e)) (left_false (eqb q p) (member p (s ∷ qs)) m)) h,
    before_rest p s qs ((ordered_by false n rows).trans p q s h r.0) r.1 (right_false (eqb q p) (member p (s ∷ qs)) m),
  )

  -- a number stands in the list once at most
  far_first : (ps : List ℕ) → InOrder (le_by false n rows) ps → ((p : ℕ) → occurrences p ps ≤ 1) → FarFirst n rows ps
  far_first [] r once = tt
  far_first (p ∷ []) r once = (tt, tt)
  far_first (p ∷ (q ∷ qs)) r once =
      (before_rest p q qs r.0 r.1 no_more, far_first (q ∷ qs) r.1 (λ s. omega (arith, once s, occurs_more s p (q ∷ qs))))
    where
      no_more : member p (q ∷ qs) ≡ false
      no_more =
          let one : one_if (eqb p p) ≡ 1 = ap one_if (eq-eqb p p refl) in
          some_occurs p (q ∷ qs) ∙ le-ltb 0 (occurrences p (q ∷ qs)) (omega (arith, once p, occurs_more p p (q ∷ qs)))

  sorted_far_first : FarFirst n rows (sort (le_by false n rows) (numbers n))
  sorted_far_first =
      far_first (sort (le_by false n rows) (numbers n)) (sort_in_order (le_by false n rows) (ordered_by false n rows) (numbers n))
      (λ p. omega (arith, sort_permutes (le_by false n rows) (numbers n) p, once_below n p, one_or_none (ltb p n)))

  -- ---- the unmarked are the list

  module _ (t : Rows n rows) (clear marks : List ℕ) (c : Clear n clear)
      (m : Marked (hidden (covers_in n rows) (sort (le_by false n rows) (numbers n))) clear marks) where
    unmarked_listed : (k : ℕ) → k < n → eqb (get_or marks k 0) 0 ≡ listed (shadowed_at n rows) n k
    unmarked_listed k l =
        let order = sort (le_by false n rows) (numbers n) in
        ap (λ (v : ℕ). eqb v 0) (m.marks k (omega (arith, c.size)) ∙ ap (cond (hidden (covers_in n rows) order k) 1) (c.zeros k l))
        ∙ bit (hidden (covers_in n rows) order k)
        ∙ sym (listed_is_unhidden n rows t order sorted_far_first (λ p h. sorted_members (le_by false n rows) n p ∙ lt-ltb p n h)
        (λ p h. ltb-true p n (sym (sorted_members (le_by false n rows) n p) ∙ h)) k l)
      where
        bit : (b : Bool) → eqb (cond b 1 0) 0 ≡ not b
        bit true = refl
        bit false = refl

    pub unmarked_are_kept : sift (λ k. eqb (get_or marks k 0) 0) (numbers n) ≡ kept_of (shadowed_at n rows) n
    unmarked_are_kept =
        sift_alike (λ k. eqb (get_or marks k 0) 0) (listed (shadowed_at n rows) n) n unmarked_listed ∙ sym (are_maxima n rows t)

-- ---- what the calls of `list_sorted` leave

pub sorted_below : (flat : Bool) (n : ℕ) (rows order sorted : List ℕ) → order ≡ numbers n → sorted ≡ sort (le_by flat n rows) order → Below n sorted
sorted_below flat n rows order sorted e f =
    subst (Below n) (sym (f ∙ ap (sort (le_by flat n rows)) e)) (sort_every (le_by flat n rows) (λ p. p < n) (numbers n) (numbers_below n))

pub all_kept : (n : ℕ) (rows order sorted clear marks by_y before after : List ℕ) (r : ℕ) → Rows n rows → order ≡ numbers n
    → sorted ≡ sort (le_by false n rows) order → Clear n clear → Sifted n rows clear marks sorted by_y
    → Written (sift (λ k. eqb (get_or marks k 0) 0) (numbers n)) before after r → Written (kept_of (shadowed_at n rows) n) before after r
all_kept n rows order sorted clear marks by_y before after r t e f c d w =
    let m = subst (λ (l : List ℕ). Marked (hidden (covers_in n rows) l) clear marks) (f ∙ ap (sort (le_by false n rows)) e) d.marks_are in
    subst (λ (l : List ℕ). Written l before after r) (unmarked_are_kept n rows t clear marks c m) w
