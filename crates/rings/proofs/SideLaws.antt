-- Sides: the next side is of the same polygon; the side that leads to a vertex, by the polygon's three corners; and the first side, one side more.
use Prim.Native.Nat.{ℕ, ◌+◌, ◌-◌, ◌*◌, ◌/◌, ◌%◌, ◌<◌}
use native.Mathlib.Omega.{arith}
use native.Mathlib.Numerals.{add-one}
use mathlib.Core.Path.{◌≡◌, refl, sym, ap, subst, ◌∙◌}
use mathlib.Core.Bool.{Bool, true, false, cond}
use mathlib.Core.List.{List, [], ◌∷◌, ◌++◌}
use mathlib.Core.Logic.{◌⊎◌, inl, inr}
use lib.Dec.{eqb}
use lib.ListN.{get_or}
use borrow.Author.Tests.{eqb-true, eqb-false, ne_eqb}
use Rattle.base.specs.Every.{Every}
use Rattle.base.specs.Lists.{sift, up_from}
use Rattle.base.proofs.EveryLaws.{every_sift}
use Rattle.corners.specs.Corners.{next_of}
use Rattle.sides.proofs.SideLaws.{leads_on, leads_back}
use Rattle.sides.proofs.UpFromLaws.{counting_more, every_counting}
use Rattle.rings.specs.Firsts.{no_side, first_or_no_side, first_side}
use Rattle.rings.specs.Rings.{side_to}
use Rattle.rings.specs.Steps.Stored.{or_side}

-- ---- the next side

pub next_same : (s : ℕ) → next_of s / 3 ≡ s / 3
unfolding next_of
next_same s = go (eqb (s % 3) 2) refl
  where
    go : (b : Bool) → eqb (s % 3) 2 ≡ b → cond b (s - 2) (s + 1) / 3 ≡ s / 3
    go true e = let two = eqb-true (s % 3) 2 e in omega arith
    go false e = let other = eqb-false (s % 3) 2 e in omega arith

next_first : (p : ℕ) → next_of (3 * p) ≡ 3 * p + 1
next_first p = sym (leads_on (3 * p) (λ e. omega arith))

next_second : (p : ℕ) → next_of (3 * p + 1) ≡ 3 * p + 2
next_second p = let more : 3 * p + 1 + 1 ≡ 3 * p + 2 = omega arith in sym (leads_on (3 * p + 1) (λ e. omega arith)) ∙ more

next_third : (p : ℕ) → next_of (3 * p + 2) ≡ 3 * p
next_third p = let back : 3 * p + 2 - 2 ≡ 3 * p = omega arith in sym (leads_back (3 * p + 2) (omega arith)) ∙ back

-- ---- the side that leads to a vertex

first_sift : (test : ℕ → Bool) (x : ℕ) (xs : List ℕ) → first_or_no_side (sift test (x ∷ xs)) ≡ cond (test x) x (first_or_no_side (sift test xs))
first_sift test x xs = go (test x)
  where
    go : (b : Bool) → first_or_no_side (cond b (x ∷ sift test xs) (sift test xs)) ≡ cond b x (first_or_no_side (sift test xs))
    go true = refl
    go false = refl

module _ (cs : List ℕ) (p v : ℕ) where
  leads : ℕ → Bool
  leads s = eqb (get_or cs (next_of s) 0) v

  stands : ℕ → Bool
  stands k = eqb (get_or cs k 0) v

  pub side_to_is : side_to cs p v
      ≡ cond (eqb (get_or cs (3 * p + 1) 0) v) (3 * p) (cond (eqb (get_or cs (3 * p + 2) 0) v) (3 * p + 1) (cond (eqb (get_or cs (3 * p) 0) v) (3 * p + 2) no_side))
  unfolding leads stands
  side_to_is =
      let third : 3 * p + 1 + 1 ≡ 3 * p + 2 = omega arith in
      let first_is : leads (3 * p) ≡ stands (3 * p + 1) = ap stands (next_first p) in
      let second_is : leads (3 * p + 1) ≡ stands (3 * p + 2) = ap stands (next_second p) in
      let third-is : leads (3 * p + 2) ≡ stands (3 * p) = ap stands (next_third p) in
      first_sift leads (3 * p) ((3 * p + 1) ∷ (3 * p + 1 + 1) ∷ [])
      ∙ (λ i. cond (first_is i) (3 * p) (first_sift leads (3 * p + 1) ((3 * p + 1 + 1) ∷ []) i))
      ∙ (λ i. cond (stands (3 * p + 1)) (3 * p) (cond (second_is i) (3 * p + 1) (first_sift leads (third i) [] i)))
      ∙ (λ i. cond (stands (3 * p + 1)) (3 * p) (cond (stands (3 * p + 2)) (3 * p + 1) (cond (third-is i) (3 * p + 2) no_side)))

  pub side_to_in : (side_to cs p v ≡ no_side) ⊎ (side_to cs p v / 3 ≡ p)
  side_to_in =
      subst (λ (s : ℕ). (s ≡ no_side) ⊎ (s / 3 ≡ p)) (sym side_to_is)
      (go (eqb (get_or cs (3 * p + 1) 0) v) (eqb (get_or cs (3 * p + 2) 0) v) (eqb (get_or cs (3 * p) 0) v))
    where
      go : (a b c : Bool)
          → (cond a (3 * p) (cond b (3 * p + 1) (cond c (3 * p + 2) no_side)) ≡ no_side) ⊎
          (cond a (3 * p) (cond b (3 * p + 1) (cond c (3 * p + 2) no_side)) / 3 ≡ p)
      go true b c = inr (omega arith)
      go false true c = inr (omega arith)
      go false false true = inr (omega arith)
      go false false false = inl refl

-- ---- the first side

module _ (cs : List ℕ) (i m : ℕ) where
  standing : List ℕ
  standing = sift (λ s. eqb (get_or cs s 0) i) (up_from 0 m)

  below : Every (λ s. s < 0 + m) standing
  unfolding standing
  below = every_sift (λ s. s < 0 + m) (λ s. eqb (get_or cs s 0) i) (up_from 0 m) (every_counting 0 m)

  pub first_in : (first_side cs i m ≡ no_side) ⊎ (first_side cs i m < m)
  unfolding standing
  first_in = go standing below
    where
      go : (xs : List ℕ) → Every (λ s. s < 0 + m) xs → (first_or_no_side xs ≡ no_side) ⊎ (first_or_no_side xs < m)
      go [] h = inl refl
      go (x ∷ xs) h = let l = h.0 in inr (omega arith)

  pub first_more : m < no_side → first_side cs i (m + 1) ≡ or_side (first_side cs i m) (eqb (get_or cs m 0) i) m
  unfolding standing
  first_more few =
      let test : ℕ → Bool = λ s. eqb (get_or cs s 0) i in
      let z : 0 + m ≡ m = omega arith in
      ap (λ (k : ℕ). first_or_no_side (sift test (up_from 0 k))) (add-one m)
      ∙ ap first_or_no_side (counting_more test 0 m)
      ∙ ap (λ (k : ℕ). first_or_no_side (standing ++ sift test (k ∷ []))) z
      ∙ go standing below (eqb (get_or cs m 0) i)
    where
      go : (xs : List ℕ) → Every (λ s. s < 0 + m) xs → (b : Bool) → first_or_no_side (xs ++ cond b (m ∷ []) []) ≡ or_side (first_or_no_side xs) b m
      go [] h true = refl
      go [] h false = refl
      go (x ∷ xs) h b =
          let l = h.0 in
          let other : eqb x no_side ≡ false = ne_eqb x no_side (λ e. omega arith) in
          sym (ap (λ (t : Bool). cond t (cond b m no_side) x) other)
