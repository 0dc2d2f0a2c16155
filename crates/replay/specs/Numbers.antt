-- The words that stand for an answer that is no word. Definitions only.
use Rattle.std.specs.Prelude.{ℕ, ◌-◌, ℤ, pos, negsuc, Option, None, Some}
use Rattle.std.specs.declared.cmp.Ordering.{Ordering}
use Rattle.std.specs.Ordering.{ordering_index}

-- The four relations of IEEE 754, of which None is "unordered".
abbrev pub relation_number : Option Ordering → ℕ
relation_number (Some o) = ordering_index o
relation_number None = 3

-- 32 bits in two's complement.
abbrev pub signed_word : ℤ → ℕ
signed_word (pos n) = n
signed_word (negsuc n) = 0xffff_ffff - n
