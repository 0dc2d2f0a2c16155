-- Positions in an order that has each place once: a position is handed out as often as the place that stands there. By induction on what is handed out.
use Prim.Native.Nat.{ℕ, ◌+◌, ◌≤◌, ◌<◌}
use native.Mathlib.Omega.{arith}
use mathlib.Core.Bool.{Bool, true, false}
use mathlib.Core.List.{List, [], ◌∷◌, map, Memᴰ}
use mathlib.Core.Logic.{⊎_elim}
use mathlib.Core.Path.{◌≡◌, refl, sym, ap, ◌∙◌}
use borrow.Author.Tests.{eqb-true, eqb-false, eq-eqb, ne_eqb}
use lib.Dec.{eqb}
use Rattle.base.proofs.ListLaws.{occurs_more, among_cases}
use Rattle.base.specs.Lists.{one_if, occurrences, Among}

-- what occurs is there
pub occurs_there : (q : ℕ) (xs : List ℕ) → Among q xs → Memᴰ q xs
occurs_there q [] h = absurd (omega arith)
occurs_there q (x ∷ xs) h = ⊎_elim (λ e. Memᴰ.head (sym e)) (λ m. Memᴰ.tail (occurs_there q xs m)) (among_cases q x xs h)

-- what is not there does not occur
pub not_there : (p k : ℕ) (is : List ℕ) → ((i : ℕ) → Memᴰ i is → i < p) → p ≤ k → occurrences k is ≡ 0
not_there p k [] below h = refl
not_there p k (i ∷ is) below h =
    let first : i < p = below i (Memᴰ.head refl) in
    let apart : one_if (eqb i k) ≡ 0 = ap one_if (ne_eqb i k (λ e. omega arith)) in
    omega (arith, occurs_more k i is, apart, not_there p k is (λ j m. below j (Memᴰ.tail m)) h)

-- f has another value at each of the first p positions: g finds the position again.
module _ (p : ℕ) (f g : ℕ → ℕ) (again : (i : ℕ) → i < p → g (f i) ≡ i) where
  same_test : (i k : ℕ) → i < p → k < p → eqb (f i) (f k) ≡ eqb i k
  same_test i k hi hk = by (eqb i k) refl
    where
      by : (t : Bool) → eqb i k ≡ t → eqb (f i) (f k) ≡ t
      by true e = eq-eqb (f i) (f k) (ap f (eqb-true i k e))
      by false e = ne_eqb (f i) (f k) (λ q. eqb-false i k e (sym (again i hi) ∙ ap g q ∙ again k hk))

  pub as_often : (k : ℕ) → k < p → (is : List ℕ) → ((i : ℕ) → Memᴰ i is → i < p) → occurrences (f k) (map f is) ≡ occurrences k is
  as_often k h [] below = refl
  as_often k h (i ∷ is) below =
      let rest = as_often k h is (λ j m. below j (Memᴰ.tail m)) in
      occurs_more (f k) (f i) (map f is)
      ∙ ap (λ (t : Bool). one_if t + occurrences (f k) (map f is)) (same_test i k (below i (Memᴰ.head refl)) h)
      ∙ ap (λ (m : ℕ). one_if (eqb i k) + m) rest
      ∙ sym (occurs_more k i is)
