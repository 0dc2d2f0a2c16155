-- The loop of `cast`: `best` says of the places taken in how near the furthest in z is; they are as far in y as all that is left, and what is not
-- taken in is nearer than what is shaded next. By the invariant `Casting`.
use mathlib.Core.Path.{◌≡◌, refl, sym, ap, ◌∙◌}
use mathlib.Core.Logic.{◌⊎◌, inl, inr}
use mathlib.Core.Bool.{Bool, true, false, cond, ◌&&◌, ◌||◌}
use mathlib.Core.List.{List, [], ◌∷◌, ◌++◌}
use Prim.Native.Nat.{ℕ, suc, min, ◌+◌, ◌≤◌, ◌<◌}
use native.Mathlib.Omega.{arith}
use native.Mathlib.Decide.{dec_lt}
use native.Mathlib.Numerals.{add-one}
use borrow.Author.Tests.{le-leb, lt-leb, leb-true, leb-false, eqb-true, eqb-false, eq-eqb, ne_eqb, ltb-true, lt-ltb}
use lib.Dec.{leb, ltb, eqb}
use lib.ListN.{length, get_or, set, take, drop, length-set, length-take, length-drop, drop_of_length-le, take-append-drop}
use lib.Seq.{take-suc, take_all, take-take, drop-append-le, length-take-le, get_or-take, get_or-drop, get_or-set_same, get_or-set_other}
use Rattle.shadows.specs.Kept.{some}
use Rattle.shadows.specs.Ranks.{beyond}
use Rattle.base.proofs.EveryLaws.{every_at}
use Rattle.far_order.specs.Rows.{y_at, cast_at, hide_at}
use Rattle.maxima.specs.Steps.Marking.{member, covers_in, Halves, Marked, cast_on}
use Rattle.shadows.proofs.Truth.{decide, first_true, second_true}
use Rattle.shadows.proofs.Below.{Last, sooner, last, last_or, some_append}

-- ---- some of a list, place by place

pub some_alike : (f g : ℕ → Bool) (xs : List ℕ) → ((k : ℕ) → k < length xs → f (get_or xs k 0) ≡ g (get_or xs k 0)) → some f xs ≡ some g xs
some_alike f g [] h = refl
some_alike f g (x ∷ xs) h = rw (h 0 (omega arith), some_alike f g xs (λ k l. h (suc k) (omega arith)))

pub some_none : (f : ℕ → Bool) (xs : List ℕ) → ((k : ℕ) → k < length xs → f (get_or xs k 0) ≡ false) → some f xs ≡ false
some_none f [] h = refl
some_none f (x ∷ xs) h = rw (h 0 (omega arith)) (some_none f xs (λ k l. h (suc k) (omega arith)))

some_more : (f : ℕ → Bool) (xs : List ℕ) (i : ℕ) → i < length xs → some f (take (i + 1) xs) ≡ (some f (take i xs) || f (get_or xs i 0))
some_more f xs i h = rw (add-one i, take-suc xs i 0 h) (some_append f (take i xs) (get_or xs i 0 ∷ [])
    ∙ ap (λ (b : Bool). some f (take i xs) || b) (or_false (f (get_or xs i 0))))
  where
    or_false : (a : Bool) → (a || false) ≡ a
    or_false true = refl
    or_false false = refl

-- ---- marks

pub marked_again : (f g : ℕ → Bool) (a b c : List ℕ) → Marked f a b → Marked g b c → Marked (λ p. f p || g p) a c
marked_again f g a b c m n =
    record {
      len = n.len ∙ m.len;
      marks = λ p l. n.marks p (omega (arith, m.len)) ∙ ap (cond (g p) 1) (m.marks p l) ∙ go (f p) (g p) (get_or a p 0);
    }
  where
    go : (u v : Bool) (x : ℕ) → cond v 1 (cond u 1 x) ≡ cond (u || v) 1 x
    go true true x = refl
    go true false x = refl
    go false v x = refl

pub marked_alike : (f g : ℕ → Bool) (a b : List ℕ) → ((p : ℕ) → f p ≡ g p) → Marked f a b → Marked g a b
marked_alike f g a b e m = record { len = m.len; marks = λ p l. m.marks p l ∙ ap (λ (t : Bool). cond t 1 (get_or a p 0)) (e p) }

pub marked_none : (f : ℕ → Bool) (a : List ℕ) → ((p : ℕ) → f p ≡ false) → Marked f a a
marked_none f a e = record { len = refl; marks = λ p l. sym (ap (λ (t : Bool). cond t 1 (get_or a p 0)) (e p)) }

-- one mark
pub shaded_one : (marks : List ℕ) (p : ℕ) → p < length marks → Marked (λ q. eqb q p && true) marks (set marks p 1)
shaded_one marks p h = record { len = length-set marks p 1; marks = λ q l. go q (decide (eqb q p)) }
  where
    go : (q : ℕ) → (eqb q p ≡ true) ⊎ (eqb q p ≡ false) → get_or (set marks p 1) q 0 ≡ cond (eqb q p && true) 1 (get_or marks q 0)
    go q (inl e) = rw e (ap (λ (k : ℕ). get_or (set marks p 1) k 0) (eqb-true q p e) ∙ get_or-set_same marks p 1 0 h)
    go q (inr e) = rw e (get_or-set_other marks p q 1 0 (eqb-false q p e))

pub shaded_none : (marks : List ℕ) (p : ℕ) → Marked (λ q. eqb q p && false) marks marks
shaded_none marks p = marked_none (λ q. eqb q p && false) marks (λ q. and_false (eqb q p))
  where
    and_false : (a : Bool) → (a && false) ≡ false
    and_false true = refl
    and_false false = refl

-- ---- the loop

pub record Casting (n : ℕ) (rows before order : List ℕ) (h best i j : ℕ) (marks : List ℕ) : Type 0 where
  pub in_left : i ≤ h
  pub from_right : h ≤ j
  pub in_right : j ≤ length order
  pub passed : (a b : ℕ) → a < i → j ≤ b → b < length order → y_at n rows (get_or order a 0) ≤ y_at n rows (get_or order b 0)
  pub best_is : (z : ℕ) → z < beyond → leb best z ≡ some (λ q. leb (cast_at n rows q) z) (take i order)
  pub shaded : Marked (λ p. some (λ q. covers_in n rows q p) (take h order) && member p (drop h (take j order))) before marks

pub none_cast : (n : ℕ) (rows before order : List ℕ) (h : ℕ) → Halves n rows before order h → Casting n rows before order h beyond 0 h before
none_cast n rows before order h w =
    record {
      in_left = omega arith;
      from_right = omega arith;
      in_right = w.within;
      passed = λ a b l m k. absurd (omega arith);
      best_is = λ z l. lt-leb beyond z l;
      shaded =
          marked_none (λ p. some (λ q. covers_in n rows q p) (take h order) && member p (drop h (take h order))) before
          (λ p. rw (drop_of_length-le (take h order) {i = h} (omega (arith, length-take-le h order w.within)))
          (and_false (some (λ q. covers_in n rows q p) (take h order))));
    }
  where
    and_false : (a : Bool) → (a && false) ≡ false
    and_false true = refl
    and_false false = refl

lesser_le : (a b z : ℕ) → leb (min a b) z ≡ (leb a z || leb b z)
lesser_le a b z = go (dec_lt b a)
  where
    or_true : (t : Bool) → t ≡ true → (s : Bool) → (s ≡ true → t ≡ true) → t ≡ (s || t)
    or_true t e true f = e
    or_true t e false f = refl

    under : (b < a) → (leb b z ≡ true) ⊎ (leb b z ≡ false) → leb b z ≡ (leb a z || leb b z)
    under l (inl e) = or_true (leb b z) e (leb a z) (λ f. e)
    under l (inr e) = rw (e, lt-leb a z (omega (arith, leb-false b z e)))

    above : (a ≤ b) → (leb a z ≡ true) ⊎ (leb a z ≡ false) → leb a z ≡ (leb a z || leb b z)
    above l (inl e) = rw e
    above l (inr e) = rw (e, lt-leb b z (omega (arith, leb-false a z e)))

    go : Dec (b < a) → leb (min a b) z ≡ (leb a z || leb b z)
    go (yes l) = let e : min a b ≡ b = omega arith in rw e (under l (decide (leb b z)))
    go (no l) = let e : min a b ≡ a = omega arith in rw e (above (omega arith) (decide (leb a z)))

module _ (n : ℕ) (rows before order : List ℕ) (h best i j : ℕ) (marks : List ℕ) (w : Halves n rows before order h)
    (c : Casting n rows before order h best i j marks) (more : j < length order) where
  pub row_left : get_or order i 0 < n
  row_left = every_at (λ p. p < n) order i w.below (omega (arith, c.in_left, c.from_right))

  pub row_right : get_or order j 0 < n
  row_right = every_at (λ p. p < n) order j w.below more

  pub mark_right : get_or order j 0 < length marks
  mark_right = omega (arith, row_right, w.mark, c.shaded.len)

  pub left_is : (ltb i h && leb (y_at n rows (get_or order i 0)) (y_at n rows (get_or order j 0))) ≡ true → i < h
  left_is e = ltb-true i h (first_true (ltb i h) (leb (y_at n rows (get_or order i 0)) (y_at n rows (get_or order j 0))) e)

  -- ---- one more is taken in

  pub take_in : (ltb i h && leb (y_at n rows (get_or order i 0)) (y_at n rows (get_or order j 0))) ≡ true
      → Casting n rows before order h (min best (cast_at n rows (get_or order i 0))) (i + 1) j marks
  take_in e =
      let y = leb (y_at n rows (get_or order i 0)) (y_at n rows (get_or order j 0)) in
      let l : i < h = ltb-true i h (first_true (ltb i h) y e) in
      let k : y_at n rows (get_or order i 0) ≤ y_at n rows (get_or order j 0) = leb-true (y_at n rows (get_or order i 0)) (y_at n rows (get_or order j 0))
      (second_true (ltb i h) y e) in
      record {
        in_left = omega arith;
        from_right = c.from_right;
        in_right = c.in_right;
        passed = λ a b p q r. go a b (last_or i a (omega arith)) q r k;
        best_is =
            λ z p.
            lesser_le best (cast_at n rows (get_or order i 0)) z
            ∙ ap (λ (t : Bool). t || leb (cast_at n rows (get_or order i 0)) z) (c.best_is z p)
            ∙ sym (some_more (λ q. leb (cast_at n rows q) z) order i (omega (arith, c.from_right)));
        shaded = c.shaded;
      }
    where
      go : (a b : ℕ) → Last i a → j ≤ b → b < length order → y_at n rows (get_or order i 0) ≤ y_at n rows (get_or order j 0)
          → y_at n rows (get_or order a 0) ≤ y_at n rows (get_or order b 0)
      go a b (sooner p) q r k = c.passed a b p q r
      go a b (last p) q r k =
          let s = w.right j b c.from_right q r in
          rw p (omega (arith, s, k))

  -- ---- the next one is shaded: by those taken in, since the others of the left are nearer in y

  i_in : i ≤ length (take h order)
  i_in = omega (arith, c.in_left, length-take-le h order w.within)

  split : take h order ≡ take i order ++ drop i (take h order)
  split = sym (take-append-drop i (take h order)) ∙ ap (λ (l : List ℕ). l ++ drop i (take h order)) (take-take i h order c.in_left)

  taken_cover : (k : ℕ) → k < length (take i order)
      → covers_in n rows (get_or (take i order) k 0) (get_or order j 0) ≡ leb (cast_at n rows (get_or (take i order) k 0)) (hide_at n rows (get_or order j 0))
  unfolding covers_in
  taken_cover k l =
      let m : k < i = omega (arith, length-take i order) in
      let e = get_or-take i order k 0 m in
      let y : y_at n rows (get_or (take i order) k 0) ≤ y_at n rows (get_or order j 0) = rw e (c.passed k j m (omega arith) more) in
      rw (le-leb (y_at n rows (get_or (take i order) k 0)) (y_at n rows (get_or order j 0)) y)

  rest_nearer : (ltb i h && leb (y_at n rows (get_or order i 0)) (y_at n rows (get_or order j 0))) ≡ false → (k : ℕ) → k < length (drop i (take h order))
      → covers_in n rows (get_or (drop i (take h order)) k 0) (get_or order j 0) ≡ false
  unfolding covers_in
  rest_nearer f k l =
      let m : i + k < h = omega (arith, length-drop i (take h order), length-take-le h order w.within) in
      let e : get_or (drop i (take h order)) k 0 ≡ get_or order (i + k) 0 = get_or-drop i (take h order) k 0 ∙ get_or-take h order (i + k) 0 m in
      let f' : leb (y_at n rows (get_or order i 0)) (y_at n rows (get_or order j 0)) ≡ false = rw (lt-ltb i h (omega arith)) at f in
      let y : y_at n rows (get_or order j 0) < y_at n rows (get_or (drop i (take h order)) k 0) = rw e
      (omega (arith, leb-false (y_at n rows (get_or order i 0)) (y_at n rows (get_or order j 0)) f', w.left i (i + k) (omega arith) (omega arith) m)) in
      rw (lt-leb (y_at n rows (get_or (drop i (take h order)) k 0)) (y_at n rows (get_or order j 0)) y)

  best_decides : (ltb i h && leb (y_at n rows (get_or order i 0)) (y_at n rows (get_or order j 0))) ≡ false
      → some (λ q. covers_in n rows q (get_or order j 0)) (take h order) ≡ leb best (hide_at n rows (get_or order j 0))
  best_decides f =
      ap (some (λ q. covers_in n rows q (get_or order j 0))) split
      ∙ some_append (λ q. covers_in n rows q (get_or order j 0)) (take i order) (drop i (take h order))
      ∙ rw (
        some_alike (λ q. covers_in n rows q (get_or order j 0)) (λ q. leb (cast_at n rows q) (hide_at n rows (get_or order j 0))) (take i order) taken_cover,
        some_none (λ q. covers_in n rows q (get_or order j 0)) (drop i (take h order)) (rest_nearer f),
      )
      (or_false (some (λ q. leb (cast_at n rows q) (hide_at n rows (get_or order j 0))) (take i order))
      ∙ sym (c.best_is (hide_at n rows (get_or order j 0)) (w.table.hidden_below (get_or order j 0) row_right)))
    where
      or_false : (a : Bool) → (a || false) ≡ a
      or_false true = refl
      or_false false = refl

  one_longer : drop h (take (j + 1) order) ≡ drop h (take j order) ++ (get_or order j 0 ∷ [])
  one_longer = rw (add-one j, take-suc order j 0 more)
      (drop-append-le h (take j order) (get_or order j 0 ∷ []) (omega (arith, c.from_right, length-take-le j order c.in_right)))

  pub shade_next : (ltb i h && leb (y_at n rows (get_or order i 0)) (y_at n rows (get_or order j 0))) ≡ false → (now : List ℕ)
      → Marked (λ q. eqb q (get_or order j 0) && leb best (hide_at n rows (get_or order j 0))) marks now → Casting n rows before order h best i (j + 1) now
  shade_next f now m =
      record {
        in_left = c.in_left;
        from_right = omega (arith, c.from_right);
        in_right = omega arith;
        passed = λ a b p q r. c.passed a b p (omega arith) r;
        best_is = c.best_is;
        shaded = marked_alike _ _ before now tests (marked_again _ _ before marks now c.shaded m);
      }
    where
      r : ℕ
      r = get_or order j 0

      covered : ℕ → Bool
      covered p = some (λ q. covers_in n rows q p) (take h order)

      join : (a b e : Bool) → ((a && b) || (e && a)) ≡ (a && (b || (e || false)))
      join true true e = refl
      join true false true = refl
      join true false false = refl
      join false b true = refl
      join false b false = refl

      -- at r itself the test of `best` is the test of the left half
      by_best : (p : ℕ) → (eqb p r ≡ true) ⊎ (eqb p r ≡ false) → (eqb p r && leb best (hide_at n rows r)) ≡ (eqb r p && covered p)
      by_best p (inl e) =
          let g : p ≡ r = eqb-true p r e in
          rw (e, eq-eqb r p (sym g)) (sym (ap covered g ∙ best_decides f))
      by_best p (inr e) = rw (e, ne_eqb r p (λ g. eqb-false p r e (sym g)))

      tests : (p : ℕ) → ((covered p && member p (drop h (take j order))) || (eqb p r && leb best (hide_at n rows r))) ≡
          (covered p && member p (drop h (take (j + 1) order)))
      tests p =
          ap (λ (t : Bool). (covered p && member p (drop h (take j order))) || t) (by_best p (decide (eqb p r)))
          ∙ join (covered p) (member p (drop h (take j order))) (eqb r p)
          ∙ sym (ap (λ (l : List ℕ). covered p && member p l) one_longer
          ∙ ap (λ (t : Bool). covered p && t) (some_append (λ q. eqb q p) (drop h (take j order)) (r ∷ [])))

pub all_cast : (n : ℕ) (rows before order : List ℕ) (h best i j : ℕ) (marks : List ℕ) → Casting n rows before order h best i j marks
    → length order ≤ j → Marked (cast_on n rows order h) before marks
all_cast n rows before order h best i j marks c l = marked_alike _ _ before marks
    (λ p. ap (λ (t : List ℕ). some (λ q. covers_in n rows q p) (take h order) && member p (drop h t)) (take_all j order l)) c.shaded
