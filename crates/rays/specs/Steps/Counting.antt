-- How many of the first n numbers pass a test, and tests that are counted instead of branched on. Definitions only.
use Rattle.std.specs.Prelude.{ℕ, zero, suc, ◌+◌, ◌≤◌, Bool, true, not, ◌&&◌, ◌≡◌, eqb}
use Rattle.base.specs.Lists.{one_if}

-- how many of the numbers below n pass
abbrev pub count_to : ℕ → (ℕ → Bool) → ℕ
count_to zero p = 0
count_to (suc n) p = count_to n p + one_if (p n)

-- none of the numbers below n passes
abbrev pub none_to : ℕ → (ℕ → Bool) → Bool
none_to zero p = true
none_to (suc n) p = none_to n p && not (p n)

-- Of `most` tests r failed: none where `good` holds, and some where it does not.
pub record Failed (most : ℕ) (good : Bool) (r : ℕ) : Type 0 where
  pub none : eqb r 0 ≡ good
  pub few : r ≤ most
