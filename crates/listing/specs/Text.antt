-- Numbers as text, in ASCII. Definitions only.
use Rattle.std.specs.Prelude.{◌≡◌, ℕ, zero, suc, ◌+◌, ◌/◌, ◌%◌, ◌≤◌, cond, List, [], ◌∷◌, ◌++◌, length, ℤ, pos, negsuc, nat_lt}
use Rattle.std.proofs.lemmas.List.Edits.{sets}

-- A digit below 10.
abbrev pub digit : ℕ → ℕ
digit d = 48 + d

-- The decimal digits of a number of at most `most + 1` of them: those of n / 10, where there are any, and the last.
unfoldable pub decimal_of : ℕ → ℕ → List ℕ
decimal_of zero n = digit (n % 10) ∷ []
decimal_of (suc most) n = cond (nat_lt n 10) (digit n ∷ []) (decimal_of most (n / 10) ++ (digit (n % 10) ∷ []))

-- Rule L1: a number without a sign, and no zero in front. Twenty digits hold every u64.
unfoldable pub decimal : ℕ → List ℕ
decimal n = decimal_of 19 n

-- Rule L1: a number below 0 has a minus in front.
abbrev pub signed : ℤ → List ℕ
signed (pos n) = decimal n
signed (negsuc n) = 45 ∷ decimal (suc n)

-- Rule L2: a field is a number after a space.
unfoldable pub field : ℤ → List ℕ
field v = 32 ∷ signed v

-- Text of at most `most` bytes is put from `at` on, and ends at r.
pub record Put (most : ℕ) (text before : List ℕ) (at : ℕ) (after : List ℕ) (r : ℕ) : Type 0 where
  pub stored : after ≡ sets before at text
  pub ends : r ≡ at + length text
  pub few : length text ≤ most
