-- What holds of every number of a list holds of every one of a part, of two such lists together, of what a test leaves, and at each index.
use Prim.Native.Nat.{ℕ, zero, suc, ◌<◌}
use native.Mathlib.Omega.{arith}
use mathlib.Core.Bool.{Bool, true, false, cond}
use mathlib.Core.List.{List, [], ◌∷◌, ◌++◌}
use lib.ListN.{length, get_or, take, drop, take-append-drop}
use Rattle.base.specs.Every.{Every}
use Rattle.base.specs.Lists.{sift}

module _ (P : ℕ → Type 0) where
  pub every_append : (xs ys : List ℕ) → Every P xs → Every P ys → Every P (xs ++ ys)
  every_append [] ys v w = w
  every_append (x ∷ xs) ys v w = (v.0, every_append xs ys v.1 w)

  pub every_left : (xs ys : List ℕ) → Every P (xs ++ ys) → Every P xs
  every_left [] ys w = tt
  every_left (x ∷ xs) ys w = (w.0, every_left xs ys w.1)

  pub every_right : (xs ys : List ℕ) → Every P (xs ++ ys) → Every P ys
  every_right [] ys w = w
  every_right (x ∷ xs) ys w = every_right xs ys w.1

  pub every_take : (i : ℕ) (xs : List ℕ) → Every P xs → Every P (take i xs)
  every_take i xs w = every_left (take i xs) (drop i xs) (rw (take-append-drop i xs) w)

  pub every_drop : (i : ℕ) (xs : List ℕ) → Every P xs → Every P (drop i xs)
  every_drop i xs w = every_right (take i xs) (drop i xs) (rw (take-append-drop i xs) w)

  every_cond : (b : Bool) (xs ys : List ℕ) → Every P xs → Every P ys → Every P (cond b xs ys)
  every_cond true xs ys v w = v
  every_cond false xs ys v w = w

  pub every_sift : (test : ℕ → Bool) (xs : List ℕ) → Every P xs → Every P (sift test xs)
  every_sift test [] w = tt
  every_sift test (x ∷ xs) w =
      let v = every_sift test xs w.1 in
      every_cond (test x) (x ∷ sift test xs) (sift test xs) (w.0, v) v

  pub every_at : (xs : List ℕ) (i : ℕ) → Every P xs → i < length xs → P (get_or xs i 0)
  every_at [] i w h = absurd (omega arith)
  every_at (x ∷ xs) zero w h = w.0
  every_at (x ∷ xs) (suc i) w h = every_at xs i w.1 (omega arith)
