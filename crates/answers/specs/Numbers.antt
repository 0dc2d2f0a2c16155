-- The numbers that stand for an enum's cases in the C interface. Definitions only.
use Rattle.std.specs.Prelude.{ℕ, ℤ, pos, negsuc, Option, None, Some}
use Rattle.std.specs.declared.cmp.Ordering.{Ordering}
use Rattle.std.specs.declared.cmp.Ordering.TheVariants.{Less, Equal, Greater}

-- IEEE 754's four relations
abbrev pub relation_number : Option Ordering → ℕ
relation_number (Some Less) = 0
relation_number (Some Equal) = 1
relation_number (Some Greater) = 2
relation_number None = 3

-- Rust's own numbers of its Ordering
abbrev pub ordering_number : Ordering → ℤ
ordering_number Less = negsuc 0
ordering_number Equal = pos 0
ordering_number Greater = pos 1
