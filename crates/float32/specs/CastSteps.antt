-- What the private functions of the casts hand to one another, by patterns of binary32. Definitions only.
use Rattle.std.specs.Prelude.{ℕ, ◌/◌, ◌^◌, min, cond, Float}
use Rattle.std.specs.Float.{binary32}
use Rattle.std.specs.Float.Ieee.{is_nan, to_bits}
use Rattle.float32.specs.RootSteps.{magnitude}

-- The word of a number. A NaN is cast as 0 is.
abbrev pub number_word : Float → ℕ
number_word x = cond (is_nan x) 0 (to_bits binary32 x)

-- The number of a pattern without a sign, cut to a whole one, and 2 ^ 31 from there on.
abbrev pub cut_size : ℕ → ℕ
cut_size b = min (magnitude b / 2 ^ 149) 0x8000_0000
