-- An order in which each of the places 0 to n − 1 stands once, and the lookup that is its inverse. By induction on the order.
use Prim.Native.Nat.{ℕ, zero, suc, ◌+◌, ◌≤◌, ◌<◌}
use native.Mathlib.Nat.{zero-add}
use native.Mathlib.Omega.{arith}
use mathlib.Core.Bool.{Bool, true, false, cond}
use mathlib.Core.List.{List, [], ◌∷◌, map}
use mathlib.Core.Logic.{⊎_elim}
use mathlib.Core.Path.{◌≡◌, refl, sym, ap, subst, ◌∙◌}
use borrow.Author.Tests.{eq-eqb, leb-true, leb-false}
use lib.Dec.{eqb, leb}
use lib.ListN.{length, get_or, take, set, length-map, length-set}
use lib.Seq.{ext_get_or, get_or-take, get_or-set_same, get_or-set_other, length-take-le}
use Rattle.base.proofs.ListLaws.{occurs_more, among_head, among_tail, among_cases}
use Rattle.base.proofs.NumberLaws.{length_up, rising_at_most}
use Rattle.base.specs.Lists.{one_if, occurrences, Among, Permutes, up_from, Below, Rising}
use Rattle.materials.proofs.ListLaws.{absent, at_place, place_most}
use Rattle.materials.specs.Materials.{place_in}
use Rattle.reorder.specs.Reordering.{lookup_of}
use Rattle.reorder.specs.Steps.Lent.{Numbering}

-- ---- numbers that rise by one

up_at : (at n i : ℕ) → i < n → get_or (up_from at n) i 0 ≡ at + i
up_at at zero i h = absurd (omega arith)
up_at at (suc n) zero h = omega arith
up_at at (suc n) (suc i) h = up_at (at + 1) n i (omega arith) ∙ omega arith

up_among : (at n x : ℕ) → at ≤ x → x < at + n → Among x (up_from at n)
up_among at zero x low high = absurd (omega arith)
up_among at (suc n) x low high = go (leb (suc at) x) refl (up_among (at + 1) n x)
  where
    go : (b : Bool) → leb (suc at) x ≡ b → (at + 1 ≤ x → x < at + 1 + n → Among x (up_from (at + 1) n)) → Among x (at ∷ up_from (at + 1) n)
    go true e later = let above = leb-true (suc at) x e in among_tail x at (up_from (at + 1) n) (later (omega arith) (omega arith))
    go false e later =
        let past = leb-false (suc at) x e in
        let same : at ≡ x = omega arith in
        subst (λ (y : ℕ). Among x (y ∷ up_from (at + 1) n)) (sym same) (among_head x (up_from (at + 1) n))

among_up : (at n x : ℕ) → Among x (up_from at n) → x < at + n
among_up at zero x m = absurd (omega arith)
among_up at (suc n) x m =
    ⊎_elim (λ e. omega arith) (λ m'. omega (arith, among_up (at + 1) n x m')) (among_cases x at (up_from (at + 1) n) m)

up_rising : (lo at n : ℕ) → lo ≤ at → Rising lo (up_from at n)
up_rising lo at zero h = tt
up_rising lo at (suc n) h = (h, up_rising (at + 1) (at + 1) n (omega arith))

-- ---- where a number stands

pub among_at : (xs : List ℕ) (i : ℕ) → i < length xs → Among (get_or xs i 0) xs
among_at [] i h = absurd (omega arith)
among_at (x ∷ xs) zero h = among_head x xs
among_at (x ∷ xs) (suc i) h = among_tail (get_or xs i 0) x xs (among_at xs i (omega arith))

-- one that is there has a place
pub place_there : (xs : List ℕ) (x : ℕ) → Among x xs → place_in xs x < length xs
place_there xs x m = go (leb (length xs) (place_in xs x)) refl
  where
    go : (b : Bool) → leb (length xs) (place_in xs x) ≡ b → place_in xs x < length xs
    go true e = absurd (omega (arith, absent xs x (leb-true (length xs) (place_in xs x) e)))
    go false e = leb-false (length xs) (place_in xs x) e

-- where none stands twice, each stands where it is found
place_of : (xs : List ℕ) (i : ℕ) → ((x : ℕ) → occurrences x xs ≤ 1) → i < length xs → place_in xs (get_or xs i 0) ≡ i
place_of [] i o h = absurd (omega arith)
place_of (y ∷ ys) zero o h = rw (eq-eqb y y refl)
place_of (y ∷ ys) (suc i) o h =
    go (eqb y (get_or ys i 0)) refl (place_of ys i (λ x. omega (arith, occurs_more x y ys, o x)) (omega arith))
  where
    go : (b : Bool) → eqb y (get_or ys i 0) ≡ b → place_in ys (get_or ys i 0) ≡ i → cond b 0 (1 + place_in ys (get_or ys i 0)) ≡ suc i
    go true e f =
        absurd (omega (arith, o (get_or ys i 0), occurs_more (get_or ys i 0) y ys, ap one_if e, among_at ys i (omega arith)))
    go false e f = omega (arith, f)

-- ---- lists made from others

pub at_map : (f : ℕ → ℕ) (xs : List ℕ) (i : ℕ) → i < length xs → get_or (map f xs) i 0 ≡ f (get_or xs i 0)
at_map f [] i h = absurd (omega arith)
at_map f (x ∷ xs) zero h = refl
at_map f (x ∷ xs) (suc i) h = at_map f xs i (omega arith)

below_each : (n : ℕ) (xs : List ℕ) → ((i : ℕ) → i < length xs → get_or xs i 0 < n) → Below n xs
below_each n [] h = tt
below_each n (x ∷ xs) h = (h 0 (omega arith), below_each n xs (λ i b. h (suc i) (omega arith)))

below_map : (n : ℕ) (f : ℕ → ℕ) (xs : List ℕ) → ((x : ℕ) → f x < n) → Below n (map f xs)
below_map n f [] h = tt
below_map n f (x ∷ xs) h = (h x, below_map n f xs h)

pub lookup_length : (n : ℕ) (order : List ℕ) → length (lookup_of n order) ≡ n
lookup_length n order = length-map (up_from 0 n) _ ∙ length_up 0 n

pub lookup_at : (n : ℕ) (order : List ℕ) (old : ℕ) → old < n → get_or (lookup_of n order) old 0 ≡ place_in order old
lookup_at n order old h =
    at_map (place_in order) (up_from 0 n) old (omega (arith, length_up 0 n)) ∙ ap (place_in order) (up_at 0 n old h ∙ zero-add old)

pub lookup_below : (n m : ℕ) (order : List ℕ) → length order < m → Below m (lookup_of n order)
lookup_below n m order h = below_map m (place_in order) (up_from 0 n) (λ x. omega (arith, place_most order x))

-- ---- the two ways are each other's inverse

module _ (n : ℕ) (order : List ℕ) (long : length order ≡ n) (each_once : Permutes order (up_from 0 n)) where
  pub none_twice : (old : ℕ) → occurrences old order ≤ 1
  none_twice old = omega (arith, each_once old, rising_at_most 0 old (up_from 0 n) (up_rising 0 0 n (omega arith)))

  -- the position of the place at a position
  pub new_of_old : (new : ℕ) → new < n → place_in order (get_or order new 0) ≡ new
  new_of_old new h = place_of order new none_twice (omega arith)

  pub old_below : (new : ℕ) → new < n → get_or order new 0 < n
  old_below new h =
      let m : Among (get_or order new 0) (up_from 0 n) = omega (arith, each_once (get_or order new 0), among_at order new (omega arith)) in
      omega (arith, among_up 0 n (get_or order new 0) m)

  pub order_below : Below n order
  order_below = below_each n order (λ i h. old_below i (omega arith))

  pub new_below : (old : ℕ) → old < n → place_in order old < n
  new_below old h =
      omega (arith, place_there order old (omega (arith, each_once old, up_among 0 n old (omega arith) (omega arith))))

  -- the place at the position of a place
  pub old_of_new : (old : ℕ) → old < n → get_or order (place_in order old) 0 ≡ old
  old_of_new old h = at_place order old (omega (arith, new_below old h))

-- ---- the loop

-- The positions of the first i places of the order are stored.
pub record Filling (order : List ℕ) (n i : ℕ) (before lookup : List ℕ) : Type 0 where
  pub upto : i ≤ n
  pub same : length lookup ≡ length before
  pub filled : (j : ℕ) → j < i → get_or lookup (get_or order j 0) 0 ≡ j

module _ (n : ℕ) (order : List ℕ) (w : Numbering n order) where
  abbrev first : List ℕ
  first = take n order

  long : length first ≡ n
  long = length-take-le n order w.long

  at_first : (k : ℕ) → k < n → get_or first k 0 ≡ get_or order k 0
  at_first k h = get_or-take n order k 0 h

  pub place_below : (k : ℕ) → k < n → get_or order k 0 < n
  place_below k h = subst (λ (x : ℕ). x < n) (at_first k h) (old_below n first long w.each_once k h)

  position_is : (k : ℕ) → k < n → place_in first (get_or order k 0) ≡ k
  position_is k h = ap (place_in first) (sym (at_first k h)) ∙ new_of_old n first long w.each_once k h

  pub fill_next : (before lookup : List ℕ) (i : ℕ) {next : List ℕ} → Filling order n i before lookup → i < n → n ≤ length before
      → next ≡ set lookup (get_or order i 0) i → Filling order n (i + 1) before next
  fill_next before lookup i {next} f h room e =
      record {
        upto = omega arith;
        same = ap length e ∙ length-set lookup (get_or order i 0) i ∙ f.same;
        filled = λ j b. ap (λ (l : List ℕ). get_or l (get_or order j 0) 0) e ∙ go j b (leb (suc j) i) refl;
      }
    where
      go : (j : ℕ) → j < i + 1 → (b : Bool) → leb (suc j) i ≡ b → get_or (set lookup (get_or order i 0) i) (get_or order j 0) 0 ≡ j
      go j b true t =
          let earlier = leb-true (suc j) i t in
          let apart : get_or order j 0 ≡ get_or order i 0 → ⊥ = λ q.
          omega (arith, position_is j (omega arith), position_is i h, ap (place_in first) q) in
          get_or-set_other lookup (get_or order i 0) (get_or order j 0) i 0 apart ∙ f.filled j earlier
      go j b false t =
          let past = leb-false (suc j) i t in
          let last : j ≡ i = omega arith in
          ap (λ (k : ℕ). get_or (set lookup (get_or order i 0) i) (get_or order k 0) 0) last
          ∙ get_or-set_same lookup (get_or order i 0) i 0 (omega (arith, place_below i h, f.same))
          ∙ sym last

  pub fill_done : (before lookup : List ℕ) → Filling order n n before lookup → n ≤ length before → take n lookup ≡ lookup_of n first
  fill_done before lookup f room =
      let size : length (take n lookup) ≡ n = length-take-le n lookup (omega (arith, f.same)) in
      ext_get_or 0 (take n lookup) (lookup_of n first) (size ∙ sym (lookup_length n first)) (λ q b. each q (omega arith))
    where
      each : (q : ℕ) → q < n → get_or (take n lookup) q 0 ≡ get_or (lookup_of n first) q 0
      each q h =
          let k = place_in first q in
          let below : k < n = new_below n first long w.each_once q h in
          let old : get_or order k 0 ≡ q = sym (at_first k below) ∙ old_of_new n first long w.each_once q h in
          get_or-take n lookup q 0 h
          ∙ ap (λ (x : ℕ). get_or lookup x 0) (sym old)
          ∙ f.filled k below
          ∙ sym (lookup_at n first q h)
