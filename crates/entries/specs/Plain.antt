-- Words that are no NaN's. Definitions only.
use Rattle.std.specs.Prelude.{ℕ, ◌%◌, ◌≤◌, Bool, true, List, ◌≡◌, get_or}

-- The word is no NaN's.
abbrev pub Number : ℕ → Type 0
Number w = w % 0x8000_0000 ≤ 0x7f80_0000

-- Where `plain` says so, no word is a NaN's.
pub record Plain (plain : Bool) (ws : List ℕ) : Type 0 where
  pub numbers : plain ≡ true → (i : ℕ) → Number (get_or ws i 0)
