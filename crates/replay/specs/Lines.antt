-- The line of a recorded case, without its end. Definitions only.
use Rattle.std.specs.Prelude.{◌≡◌, ℕ, ◌-◌, ◌^◌, ◌<◌, Bool, true, false, cond, List, [], ◌∷◌, ◌++◌, length, take, ◌≢◌, nat_lt}
use Rattle.io.specs.Digits.{last_digits}
use Rattle.replay.specs.Operations.{number_of, count_of}
use Rattle.replay.specs.declared.operation.Operation.{Operation}
use Rattle.std.specs.Prelude.{Option, Some, None}

-- A word: a space, and eight hexadecimal digits.
unfoldable pub field : ℕ → List ℕ
field w = 32 ∷ last_digits 16 8 w

abbrev pub fields_of : List ℕ → List ℕ
fields_of [] = []
fields_of (w ∷ ws) = field w ++ fields_of ws

-- The operation's number in two digits, then its words.
unfoldable pub line_of : Operation → List ℕ → List ℕ
line_of op ws = last_digits 16 2 (number_of op) ++ fields_of ws

-- The number of a hexadecimal digit, None for any other byte.
abbrev pub digit_of : ℕ → Option ℕ
digit_of c =
    cond (nat_lt c 48) None (cond (nat_lt c 58) (Some (c - 48)) (cond (nat_lt c 97) None (cond (nat_lt c 103) (Some (c - 87)) None)))

-- The number that hexadecimal digits spell; nothing where the text has another byte.
abbrev pub Spells : List ℕ → Option ℕ → Type 0
Spells s (Some n) = (s ≡ last_digits 16 (length s) n) × (n < 16 ^ length s)
Spells s None = (n : ℕ) → s ≢ last_digits 16 (length s) n

-- Whether a text is that of n words, and of which.
abbrev pub Fields : List ℕ → ℕ → List ℕ → Bool → Type 0
Fields text n ws true = text ≡ fields_of ws
Fields text n ws false = (vs : List ℕ) → length vs ≡ n → text ≢ fields_of vs

-- The line is that of the operation of number n, with the words at the start of ws.
pub record Says (n : ℕ) (line ws : List ℕ) : Type 0 where
  pub op : Operation
  pub named : n ≡ number_of op
  pub same : line ≡ line_of op (take (count_of op) ws)

-- What a line says: the number of its operation, with its words, or None where it is the line of none.
abbrev pub Parses : List ℕ → List ℕ → Option ℕ → Type 0
Parses line ws (Some n) = Says n line ws
Parses line ws None = (op : Operation) (vs : List ℕ) → length vs ≡ count_of op → line ≢ line_of op vs
