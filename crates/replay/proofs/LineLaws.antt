-- A line: two digits that name the operation, then its words. Assumes nothing.
use Rattle.std.proofs.Common.{◌≡◌, ℕ, ◌+◌, ◌*◌, ◌^◌, ◌<◌, List, ◌++◌, length, take, drop, sym, ap, ◌∙◌, ap₂, arith, length-append, take-append-drop, take_at, drop_at}
use Rattle.io.specs.Digits.{last_digits}
use Rattle.replay.specs.Lines.{fields_of, line_of}
use Rattle.replay.specs.Operations.{number_of}
use Rattle.replay.specs.declared.operation.Operation.{Operation}
use Rattle.replay.proofs.FieldLaws.{length_fields}
use Rattle.replay.proofs.Numbering.{numbered}
use Rattle.replay.proofs.Spelling.{length_digits, digits_injective}

pub line_length : (op : Operation) (ws : List ℕ) → length (line_of op ws) ≡ 2 + 9 * length ws
unfolding line_of
line_length op ws = omega (arith, length-append (last_digits 16 2 (number_of op)) (fields_of ws), length_digits 16 2 (number_of op), length_fields ws)

pub line_number : (op : Operation) (ws : List ℕ) → take 2 (line_of op ws) ≡ last_digits 16 2 (number_of op)
unfolding line_of
line_number op ws = take_at (last_digits 16 2 (number_of op)) (fields_of ws) 2 (length_digits 16 2 (number_of op))

pub line_fields : (op : Operation) (ws : List ℕ) → drop 2 (line_of op ws) ≡ fields_of ws
unfolding line_of
line_fields op ws = drop_at (last_digits 16 2 (number_of op)) (fields_of ws) 2 (length_digits 16 2 (number_of op))

pub line_made : (line : List ℕ) (op : Operation) (ws : List ℕ) → take 2 line ≡ last_digits 16 2 (number_of op) → drop 2 line ≡ fields_of ws → line ≡ line_of op ws
unfolding line_of
line_made line op ws n f = sym (take-append-drop 2 line) ∙ ap₂ ◌++◌ n f

-- The digits of a line name one operation.
pub line_names : (line : List ℕ) (n : ℕ) (op : Operation) (ws : List ℕ) → take 2 line ≡ last_digits 16 2 n → n < 16 ^ 2 → line ≡ line_of op ws → n ≡ number_of op
line_names line n op ws d h e =
    digits_injective 2 n (number_of op) h (omega (arith, (numbered op).most)) (sym d ∙ ap (take 2) e ∙ line_number op ws)
