-- Numbers that rise by one, numbers below a bound, and lists that rise, in which no number stands twice. By induction on the list.
use Prim.Native.Nat.{ℕ, zero, suc, ◌+◌, ◌*◌, ◌≤◌, ◌<◌}
use native.Mathlib.Nat.{add-zero, zero-mul, eq_of_mul-eq-mul_right}
use native.Mathlib.Numerals.{add-one}
use native.Mathlib.Omega.{arith}
use mathlib.Core.Bool.{Bool, true, false, cond}
use mathlib.Core.List.Memᴰ
use mathlib.Core.List.{List, [], ◌∷◌, ◌++◌, Memᴰ}
use mathlib.Core.Logic.{⊎_elim}
use mathlib.Core.Path.{◌≡◌, refl, sym, ap, ◌∙◌}
use borrow.Author.Tests.{eq-eqb, ne_eqb, eqb-true}
use lib.Dec.{eqb}
use lib.ListN.{length, get_or}
use Rattle.base.specs.Lists.{sift, occurrences, up_from, Below, Rising}

-- what is nothing by a factor that is not 0 is nothing
pub no_factor : (m u : ℕ) → 0 < u → m * u ≡ 0 → m ≡ 0
no_factor m u U h = eq_of_mul-eq-mul_right u U m 0 (h ∙ sym (zero-mul u))

-- ---- up_from

pub length_up : (at n : ℕ) → length (up_from at n) ≡ n
length_up at zero = refl
length_up at (suc n) = ap suc (length_up (at + 1) n)

pub up_more : (at n : ℕ) → up_from at (n + 1) ≡ up_from at n ++ ((at + n) ∷ [])
up_more at zero = ap (λ (k : ℕ). k ∷ []) (sym (add-zero at))
up_more at (suc n) =
    let e : at + 1 + n ≡ at + suc n = omega arith in
    ap (up_from at) (add-one (suc n))
    ∙ ap (λ (l : List ℕ). at ∷ l)
    (ap (up_from (at + 1)) (sym (add-one n)) ∙ up_more (at + 1) n ∙ ap (λ (k : ℕ). up_from (at + 1) n ++ (k ∷ [])) e)

pub up_within : (n at i : ℕ) → Memᴰ i (up_from at n) → (at ≤ i) × (i < at + n)
up_within zero at i m = absurd (Memᴰ.not-nil m)
up_within (suc n) at i m =
    ⊎_elim (λ e. (omega arith, omega arith))
    (λ m'. let h = up_within n (at + 1) i m' in (omega (arith, h.0), omega (arith, h.1)))
    (Memᴰ.cases_cons m)

pub up_below : (at n hi : ℕ) → at + n ≤ hi → Below hi (up_from at n)
up_below at zero hi h = tt
up_below at (suc n) hi h = (omega arith, up_below (at + 1) n hi (omega arith))

-- ---- below a bound

pub below_wider : (m n : ℕ) (xs : List ℕ) → m ≤ n → Below m xs → Below n xs
below_wider m n [] h hs = tt
below_wider m n (x ∷ xs) h hs = (omega (arith, hs.0), below_wider m n xs h hs.1)

pub below_at : (n : ℕ) (xs : List ℕ) (i : ℕ) → Below n xs → 0 < n → get_or xs i 0 < n
below_at n [] i hs h = h
below_at n (x ∷ xs) zero hs h = hs.0
below_at n (x ∷ xs) (suc i) hs h = below_at n xs i hs.1 h

-- one more, if it is kept
pub below_kept : (b : Bool) (n x : ℕ) (xs : List ℕ) → x < n → Below n xs → Below n (cond b (x ∷ xs) xs)
below_kept true n x xs h hs = (h, hs)
below_kept false n x xs h hs = hs

-- ---- rising

pub rising_lower : (lo hi : ℕ) (xs : List ℕ) → lo ≤ hi → Rising hi xs → Rising lo xs
rising_lower lo hi [] h hs = tt
rising_lower lo hi (x ∷ xs) h hs = (omega (arith, hs.0), hs.1)

pub rising_kept : (b : Bool) (at : ℕ) (xs : List ℕ) → Rising (at + 1) xs → Rising at (cond b (at ∷ xs) xs)
rising_kept true at xs hs = (omega arith, hs)
rising_kept false at xs hs = rising_lower at (at + 1) xs (omega arith) hs

rising_from : (lo : ℕ) (xs : List ℕ) (i : ℕ) → Rising lo xs → i < length xs → lo ≤ get_or xs i 0
rising_from lo [] i hs h = absurd (omega arith)
rising_from lo (x ∷ xs) zero hs h = hs.0
rising_from lo (x ∷ xs) (suc i) hs h = omega (arith, hs.0, rising_from (x + 1) xs i hs.1 (omega arith))

-- In a rising list no number stands twice.
pub rising_apart : (lo : ℕ) (xs : List ℕ) (i j : ℕ) → Rising lo xs → i < j → j < length xs → get_or xs i 0 < get_or xs j 0
rising_apart lo [] i j hs h below = absurd (omega arith)
rising_apart lo (x ∷ xs) i zero hs h below = absurd (omega arith)
rising_apart lo (x ∷ xs) zero (suc j) hs h below = omega (arith, rising_from (x + 1) xs j hs.1 (omega arith))
rising_apart lo (x ∷ xs) (suc i) (suc j) hs h below = rising_apart (x + 1) xs i j hs.1 (omega arith) (omega arith)

none_below : (lo p : ℕ) (xs : List ℕ) → Rising lo xs → p < lo → occurrences p xs ≡ 0
none_below lo p [] hs h = refl
none_below lo p (x ∷ xs) hs h =
    rw (ne_eqb x p (λ e. omega (arith, hs.0))) (none_below (x + 1) p xs hs.1 (omega (arith, hs.0)))

none_above : (lo p : ℕ) (xs : List ℕ) → Rising lo xs → Memᴰ p xs → lo ≤ p
none_above lo p [] hs m = absurd (Memᴰ.not-nil m)
none_above lo p (x ∷ xs) hs m =
    ⊎_elim (λ e. omega (arith, hs.0)) (λ m'. omega (arith, none_above (x + 1) p xs hs.1 m', hs.0)) (Memᴰ.cases_cons m)

-- each stands there once
pub rising_once : (lo p : ℕ) (xs : List ℕ) → Rising lo xs → Memᴰ p xs → occurrences p xs ≡ 1
rising_once lo p [] hs m = absurd (Memᴰ.not-nil m)
rising_once lo p (x ∷ xs) hs m =
    ⊎_elim (λ e. rw (eq-eqb x p (sym e)) (ap suc (none_below (x + 1) p xs hs.1 (omega arith))))
    (λ m'. rw (ne_eqb x p (λ e. omega (arith, none_above (x + 1) p xs hs.1 m'))) (rising_once (x + 1) p xs hs.1 m'))
    (Memᴰ.cases_cons m)

-- and nothing more than once
pub rising_at_most : (lo p : ℕ) (xs : List ℕ) → Rising lo xs → occurrences p xs ≤ 1
rising_at_most lo p [] hs = omega arith
rising_at_most lo p (x ∷ xs) hs = by (eqb x p) refl (rising_at_most (x + 1) p xs hs.1)
  where
    by : (q : Bool) → eqb x p ≡ q → occurrences p xs ≤ 1
        → length (cond q (x ∷ sift (λ y. eqb y p) xs) (sift (λ y. eqb y p) xs)) ≤ 1
    by true e h = omega (arith, none_below (x + 1) p xs hs.1 (let same : x ≡ p = eqb-true x p e in omega arith))
    by false e h = h
