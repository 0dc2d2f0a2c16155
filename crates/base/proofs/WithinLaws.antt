-- Places within the list of entries: each of them, and those of a part, of two lists together and of what a test leaves; and places below a bound.
use Prim.Native.Nat.{ℕ, ◌+◌, ◌*◌, ◌≤◌, ◌<◌}
use native.Mathlib.Omega.{arith}
use mathlib.Core.Bool.{Bool}
use mathlib.Core.List.{List, [], ◌∷◌, ◌++◌}
use lib.ListN.{length, get_or, take, drop}
use Rattle.base.specs.Lists.{sift, Below, Inside, Within}
use Rattle.base.proofs.EveryLaws.{every_append, every_take, every_drop, every_sift, every_at}

module _ (n : ℕ) where
  pub within_sift : (test : ℕ → Bool) (ps : List ℕ) → Within n ps → Within n (sift test ps)
  within_sift = every_sift (Inside n)

  pub within_append : (ps rs : List ℕ) → Within n ps → Within n rs → Within n (ps ++ rs)
  within_append = every_append (Inside n)

  pub within_take : (k : ℕ) (ps : List ℕ) → Within n ps → Within n (take k ps)
  within_take = every_take (Inside n)

  pub within_drop : (k : ℕ) (ps : List ℕ) → Within n ps → Within n (drop k ps)
  within_drop = every_drop (Inside n)

  pub within_at : (ps : List ℕ) (i : ℕ) → Within n ps → i < length ps → 7 * get_or ps i 0 + 7 ≤ n
  within_at = every_at (Inside n)

pub below_within : (n size : ℕ) (xs : List ℕ) → 7 * n ≤ size → Below n xs → Within size xs
below_within n size [] h hs = tt
below_within n size (x ∷ xs) h hs = (omega (arith, hs.0), below_within n size xs h hs.1)

pub within_below : (n : ℕ) (xs : List ℕ) → Within (7 * n) xs → Below n xs
within_below n [] hs = tt
within_below n (x ∷ xs) hs = (omega (arith, hs.0), within_below n xs hs.1)
