-- Comparison (IEEE 754-2019, 5.11), on the numbers that floats stand for. Definitions only.
use Prim.Native.Nat.{ℕ, ◌+◌, ◌*◌, ◌<◌, compare}
use Prim.Native.Nat as Nat
use Rattle.std.specs.Prelude.{◌≡◌, true, false, ◌⊎◌, Float, Option, None, Some}
use Rattle.std.specs.Float.{nan, inf, fin}
use Rattle.std.specs.Float.Ieee.{up, down}
use Rattle.std.specs.declared.cmp.Ordering.{Ordering}
use Rattle.std.specs.declared.cmp.Ordering.TheVariants.{Less, Equal, Greater}

-- What a float stands for: no number, an infinity, or the number (p - q) / d, of which p or q is 0.
pub data Meaning : Type 0 where
  none lowest highest : Meaning
  ratio : ℕ → ℕ → ℕ → Meaning

abbrev pub meaning : Float → Meaning
meaning nan = none
meaning (inf true) = lowest
meaning (inf false) = highest
meaning (fin true m e) = ratio 0 (m * up e) (down e)
meaning (fin false m e) = ratio (m * up e) 0 (down e)

-- (p - q) / d < (p' - q') / d', by products; an infinity lies beyond every number.
abbrev pub Below : Meaning → Meaning → Type 0
Below none b = ⊥
Below lowest none = ⊥
Below lowest lowest = ⊥
Below lowest highest = Unit
Below lowest (ratio p q d) = Unit
Below highest b = ⊥
Below (ratio p q d) none = ⊥
Below (ratio p q d) lowest = ⊥
Below (ratio p q d) highest = Unit
Below (ratio p q d) (ratio p' q' d') = p * d' + q' * d < p' * d + q * d'

-- Equal numbers, whatever the sign of a zero; infinities of one sign are equal.
abbrev pub Same : Meaning → Meaning → Type 0
Same none b = ⊥
Same lowest none = ⊥
Same lowest lowest = Unit
Same lowest highest = ⊥
Same lowest (ratio p q d) = ⊥
Same highest none = ⊥
Same highest lowest = ⊥
Same highest highest = Unit
Same highest (ratio p q d) = ⊥
Same (ratio p q d) none = ⊥
Same (ratio p q d) lowest = ⊥
Same (ratio p q d) highest = ⊥
Same (ratio p q d) (ratio p' q' d') = p * d' + q' * d ≡ p' * d + q * d'

-- A NaN is unordered with everything, itself included.
abbrev pub Apart : Meaning → Meaning → Type 0
Apart a b = (a ≡ none) ⊎ (b ≡ none)

-- Rule F1 (5.11): what each of the four relations says, of which None is "unordered".
abbrev pub Related : Option Ordering → Meaning → Meaning → Type 0
Related (Some Less) a b = Below a b
Related (Some Equal) a b = Same a b
Related (Some Greater) a b = Below b a
Related None a b = Apart a b

-- The relation between two numbers, by how they compare.
abbrev pub of_ordering : Nat.Ordering → Option Ordering
of_ordering Prim.Native.Nat.Ordering.lt = Some Less
of_ordering Prim.Native.Nat.Ordering.eq = Some Equal
of_ordering Prim.Native.Nat.Ordering.gt = Some Greater

-- Which of the four relations holds.
unfoldable pub relate : Meaning → Meaning → Option Ordering
relate none b = None
relate lowest none = None
relate lowest lowest = Some Equal
relate lowest highest = Some Less
relate lowest (ratio p q d) = Some Less
relate highest none = None
relate highest lowest = Some Greater
relate highest highest = Some Equal
relate highest (ratio p q d) = Some Greater
relate (ratio p q d) none = None
relate (ratio p q d) lowest = Some Greater
relate (ratio p q d) highest = Some Less
relate (ratio p q d) (ratio p' q' d') = of_ordering (compare (p * d' + q' * d) (p' * d + q * d'))

-- Rule F1: the relation between two floats is that between what they stand for.
unfoldable pub relation_of : Float → Float → Option Ordering
unfolding relate
relation_of x y = relate (meaning x) (meaning y)
