-- What `write_octants` answers, and what its output then holds. Definitions only.
use Rattle.std.specs.Prelude.{ℕ, ◌+◌, ◌*◌, Bool, false, cond, ◌||◌, List, [], ◌∷◌, ◌≡◌, ltb, length, ⊤, Result, Ok, Err}
use Rattle.base.specs.Lists.{over}
use Rattle.octant_bytes.specs.declared.OctantBytesRefusal.{OctantBytesRefusal}
use Rattle.octant_bytes.specs.declared.OctantBytesRefusal.TheVariants.{TooManyIndices, BufferTooShort, AddressTooHigh}
use Rattle.octant_bytes.specs.Bytes.{lengths_of, all_of, octant_bytes}

-- 01, octants, 1: a list over 32,768 indices.
abbrev pub many : List ℕ → Bool
many [] = false
many (n ∷ ns) = ltb 32768 n || many ns

-- Rule O4 (01, octants): the checks in the order written, for lists of these lengths and an output of so many bytes.
-- 2: under 128 + 4 · all indices; 12: the address of what stands behind the lists exceeds 2^64 − 1.
unfoldable pub answer_of : ℕ → List ℕ → ℕ → Result ⊤ OctantBytesRefusal
answer_of address counts room =
    let all = all_of counts in
    cond (many counts) (Err TooManyIndices)
    (cond (ltb room (128 + 4 * all)) (Err BufferTooShort)
    (cond (ltb 18446744073709551615 (address + 96 + 4 * all)) (Err AddressTooHigh) (Ok tt)))

-- 01's number for each reason
abbrev pub refusal_number : OctantBytesRefusal → ℕ
refusal_number TooManyIndices = 1
refusal_number BufferTooShort = 2
refusal_number AddressTooHigh = 12

-- 01's number for each answer, 0 where it is not refused
abbrev pub number_of : Result ⊤ OctantBytesRefusal → ℕ
number_of (Ok u) = 0
number_of (Err why) = refusal_number why

-- what the output holds at the end: on a refusal what it had
abbrev pub kept : Result ⊤ OctantBytesRefusal → List ℕ → List ℕ → List ℕ
kept (Ok u) written before = over written before
kept (Err why) written before = before

-- Rule O4: the answer, and every byte of the output.
pub record Answered (address : ℕ) (ls : List (List ℕ)) (before after : List ℕ) (r : Result ⊤ OctantBytesRefusal) : Type 0 where
  pub answer : r ≡ answer_of address (lengths_of ls) (length before)
  pub bytes : after ≡ kept r (octant_bytes address ls) before

-- Rule O4, of the answer's number.
pub record Numbered (address : ℕ) (ls : List (List ℕ)) (before after : List ℕ) (r : ℕ) : Type 0 where
  pub number : r ≡ number_of (answer_of address (lengths_of ls) (length before))
  pub bytes : after ≡ kept (answer_of address (lengths_of ls) (length before)) (octant_bytes address ls) before
