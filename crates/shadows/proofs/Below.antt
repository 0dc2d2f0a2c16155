-- Tests of the numbers below n: at each number, over the list of those that pass, and from one test to another.
use mathlib.Core.Path.{◌≡◌, refl, sym, ap, ◌∙◌}
use mathlib.Core.Logic.{◌⊎◌, inl, inr}
use mathlib.Core.Bool.{Bool, true, false, not, cond, ◌&&◌, ◌||◌}
use mathlib.Core.List.{List, [], ◌∷◌, ◌++◌}
use Prim.Native.Nat.{ℕ, zero, suc, ◌<◌}
use native.Mathlib.Omega.{arith}
use native.Mathlib.Decide.{dec_lt}
use Rattle.base.specs.Lists.{sift}
use Rattle.shadows.specs.Kept.{some}
use Rattle.shadows.specs.Maxima.{numbers, none_below}
use Rattle.shadows.proofs.Truth.{decide, never, first_true, second_true, both_true}

-- ---- a number below n + 1 is below n, or n

pub data Last (n k : ℕ) : Type 0 where
  sooner : k < n → Last n k
  last : k ≡ n → Last n k

pub last_or : (n k : ℕ) → k < suc n → Last n k
last_or n k h = go (dec_lt k n)
  where
    go : Dec (k < n) → Last n k
    go (yes l) = sooner l
    go (no l) = last (omega arith)

-- ---- none below

not_true : (b : Bool) → not b ≡ true → b ≡ false
not_true true h = sym h
not_true false h = refl

pub none_at : (n : ℕ) (p : ℕ → Bool) → none_below n p ≡ true → (k : ℕ) → k < n → p k ≡ false
none_at zero p h k l = absurd (omega arith)
none_at (suc n) p h k l = go (last_or n k l) (none_at n p (first_true (none_below n p) (not (p n)) h) k)
  where
    go : Last n k → (k < n → p k ≡ false) → p k ≡ false
    go (sooner m) f = f m
    go (last e) f = ap p e ∙ not_true (p n) (second_true (none_below n p) (not (p n)) h)

pub none_if : (n : ℕ) (p : ℕ → Bool) → ((k : ℕ) → k < n → p k ≡ false) → none_below n p ≡ true
none_if zero p h = refl
none_if (suc n) p h = both_true (none_below n p) (not (p n)) (none_if n p (λ k l. h k (omega arith))) (ap not (h n (omega arith)))

pub none_alike : (n : ℕ) (p q : ℕ → Bool) → ((k : ℕ) → k < n → p k ≡ q k) → none_below n p ≡ none_below n q
none_alike zero p q h = refl
none_alike (suc n) p q h = rw (none_alike n p q (λ k l. h k (omega arith)), h n (omega arith))

-- one below n that passes
pub record One (n : ℕ) (p : ℕ → Bool) : Type 0 where
  pub number : ℕ
  pub in_range : number < n
  pub passes : p number ≡ true

pub one_if_lem : (n : ℕ) (p : ℕ → Bool) → none_below n p ≡ false → One n p
one_if_lem zero p h = never refl h
one_if_lem (suc n) p h = go (decide (p n)) (one_if_lem n p)
  where
    left_false : (a b : Bool) → b ≡ false → (a && not b) ≡ false → a ≡ false
    left_false true b e h = never (ap not e) h
    left_false false b e h = refl

    go : (p n ≡ true) ⊎ (p n ≡ false) → (none_below n p ≡ false → One n p) → One (suc n) p
    go (inl e) f = record { number = n; in_range = omega arith; passes = e }
    go (inr e) f =
        let r = f (left_false (none_below n p) (p n) e h) in
        record { number = r.number; in_range = omega (arith, r.in_range); passes = r.passes }

-- ---- lists of numbers that pass

pub sift_append : (p : ℕ → Bool) (xs ys : List ℕ) → sift p (xs ++ ys) ≡ sift p xs ++ sift p ys
sift_append p [] ys = refl
sift_append p (x ∷ xs) ys = go (p x) (sift_append p xs ys)
  where
    go : (b : Bool) → sift p (xs ++ ys) ≡ sift p xs ++ sift p ys
        → cond b (x ∷ sift p (xs ++ ys)) (sift p (xs ++ ys)) ≡ cond b (x ∷ sift p xs) (sift p xs) ++ sift p ys
    go true h = ap (λ (l : List ℕ). x ∷ l) h
    go false h = h

pub some_append : (p : ℕ → Bool) (xs ys : List ℕ) → some p (xs ++ ys) ≡ (some p xs || some p ys)
some_append p [] ys = refl
some_append p (x ∷ xs) ys = go (p x) (some_append p xs ys)
  where
    go : (b : Bool) → some p (xs ++ ys) ≡ (some p xs || some p ys) → (b || some p (xs ++ ys)) ≡ ((b || some p xs) || some p ys)
    go true h = refl
    go false h = h

pub sift_sift : (p q : ℕ → Bool) (xs : List ℕ) → sift p (sift q xs) ≡ sift (λ x. q x && p x) xs
sift_sift p q [] = refl
sift_sift p q (x ∷ xs) = go (q x) (sift_sift p q xs)
  where
    go : (b : Bool) → sift p (sift q xs) ≡ sift (λ y. q y && p y) xs
        → sift p (cond b (x ∷ sift q xs) (sift q xs)) ≡ cond (b && p x) (x ∷ sift (λ y. q y && p y) xs) (sift (λ y. q y && p y) xs)
    go true h = ap (λ (l : List ℕ). cond (p x) (x ∷ l) l) h
    go false h = h

-- two tests that agree below n pass the same of them
pub sift_alike : (p q : ℕ → Bool) (n : ℕ) → ((k : ℕ) → k < n → p k ≡ q k) → sift p (numbers n) ≡ sift q (numbers n)
sift_alike p q zero h = refl
sift_alike p q (suc n) h =
    sift_append p (numbers n) (n ∷ [])
    ∙ rw (sift_alike p q n (λ k l. h k (omega arith)), h n (omega arith)) (sym (sift_append q (numbers n) (n ∷ [])))

-- one of those that pass q passes p, unless none below n passes both
pub some_sifted : (p q : ℕ → Bool) (n : ℕ) → some p (sift q (numbers n)) ≡ not (none_below n (λ k. q k && p k))
some_sifted p q zero = refl
some_sifted p q (suc n) =
    ap (some p) (sift_append q (numbers n) (n ∷ []))
    ∙ some_append p (sift q (numbers n)) (sift q (n ∷ []))
    ∙ rw (some_sifted p q n) (go (none_below n (λ k. q k && p k)) (q n))
  where
    twice : (c : Bool) → (c || false) ≡ not (not c)
    twice true = refl
    twice false = refl

    go : (a b : Bool) → (not a || some p (cond b (n ∷ []) [])) ≡ not (a && not (b && p n))
    go true true = twice (p n)
    go true false = refl
    go false true = refl
    go false false = refl
