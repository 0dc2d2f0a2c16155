-- Where a material stands first, by the place of the first that equals it.
use Rattle.std.proofs.Common.{◌≡◌, ℕ, ◌+◌, ◌<◌, Bool, true, false, not, cond, refl, ap, List, [], ◌∷◌, length, eqb, position, ◌==◌, MatchOption, arith}
use Rattle.std.specs.List.{position_or_len}
use native.Mathlib.Decide.{dec_lt}
use borrow.Author.Tests.{lt-ltb, le-ltb}
use Rattle.materials.specs.Materials.{place_in}
use Rattle.materials.proofs.ListLaws.{place_most}

same : (xs : List ℕ) (x : ℕ) → position_or_len (λ y. y == x) xs ≡ place_in xs x
same [] x = refl
same (y ∷ ys) x = go (same ys x) (eqb y x)
  where
    go : position_or_len (λ z. z == x) ys ≡ place_in ys x → (b : Bool) → cond (not b) (1 + position_or_len (λ z. z == x) ys) 0 ≡ cond b 0 (1 + place_in ys x)
    go e true = refl
    go e false = ap (λ (n : ℕ). 1 + n) e

pub placed : (xs : List ℕ) (x : ℕ) → MatchOption (position (λ y. y == x) xs) (place_in xs x ≡ length xs) (λ at. (at ≡ place_in xs x) × (at < length xs))
placed xs x = go (dec_lt (place_in xs x) (length xs))
  where
    go : Dec (place_in xs x < length xs) → MatchOption (position (λ y. y == x) xs) (place_in xs x ≡ length xs) (λ at. (at ≡ place_in xs x) × (at < length xs))
    go (yes k) = rw (same xs x, lt-ltb (place_in xs x) (length xs) k) (refl, k)
    go (no k) = rw (same xs x, le-ltb (place_in xs x) (length xs) (omega arith)) (omega (arith, place_most xs x))
