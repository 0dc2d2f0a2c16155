-- Bytes in hexadecimal, and numbers as bytes. Definitions only.
use Rattle.std.specs.Prelude.{ℕ, ◌+◌, ◌/◌, ◌%◌, cond, List, [], ◌∷◌, ◌++◌, ltb}
use Rattle.base.specs.LittleEndian.{little_endian}

-- what f gives for each, one after the other
abbrev pub each_of : {A : Type 0} → (A → List ℕ) → List A → List ℕ
each_of f [] = []
each_of f (x ∷ xs) = f x ++ each_of f xs

-- a digit below 16, in ASCII: 0 to 9, A to F
abbrev pub digit_of : ℕ → ℕ
digit_of n = cond (ltb n 10) (48 + n) (55 + n)

-- Rule L14: a byte is two digits, the high one first.
unfoldable pub byte_text : ℕ → List ℕ
byte_text b = digit_of (b / 16) ∷ digit_of (b % 16) ∷ []

abbrev pub hex_of : List ℕ → List ℕ
hex_of bytes = each_of byte_text bytes

-- Rule L14: words have four bytes each, places two, the lowest first (R1).
abbrev pub word_bytes : List ℕ → List ℕ
word_bytes words = each_of (little_endian 4) words

abbrev pub place_bytes : List ℕ → List ℕ
place_bytes places = each_of (little_endian 2) places
