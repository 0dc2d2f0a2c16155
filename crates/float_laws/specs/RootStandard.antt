-- What IEEE 754-2019 says of a square root: squareRoot (5.4.1) with roundTiesToEven (4.3.1), infinities (6.1), NaN (6.2), the sign of a zero (6.3),
-- operands below zero (7.2). Definitions only.
-- A finite value is the fraction ± num / den, its significand times a power of two. √x itself may be no fraction, so how near a value lies to it is
-- told by squares:
-- of two numbers the lower is the nearer to √x where √x lies below their mean, and the upper where it lies above.
-- And √x ≤ (r + y) / 2 says the same as 4 * x ≤ (r + y)², for an r + y that is not below zero.
use Rattle.std.specs.Prelude.{ℕ, ◌+◌, ◌-◌, ◌*◌, ◌%◌, ◌≤◌, ◌<◌, ◌≡◌, Bool, true, false, cond, T, ℤ, pos, Float}
use Rattle.std.specs.Float.{nan, inf, fin, Format}
use Rattle.std.specs.Float.Ieee.{lt, fits, to_bits}
use Rattle.std.specs.Float.Ieee.Positive.{num, den, positive}
use Rattle.std.specs.Float.Ieee.Scale.{finite}
use Rattle.float32.specs.Signed.{negative}

-- r + y, times den r * den y, for an r above zero. A sum below zero is put at 0: either lies below twice the root.
abbrev pub sum_of : Float → Float → ℕ
sum_of r y = cond (negative y) (num r * den y - num y * den r) (num r * den y + num y * den r)

-- (r + y)² and 4 * x, both times (den r * den y)² * den x
abbrev pub sum_squared : Float → Float → Float → ℕ
sum_squared x r y = sum_of r y * sum_of r y * den x

abbrev pub four_times : Float → Float → Float → ℕ
four_times x r y = 4 * num x * (den r * den y * (den r * den y))

-- y is no nearer to √x than r is: the mean with a y below r is at most √x, and with a y above r at least √x.
abbrev pub NoNearer : Float → Float → Float → Type 0
NoNearer x r y = (T (lt y r) → sum_squared x r y ≤ four_times x r y) × (T (lt r y) → four_times x r y ≤ sum_squared x r y)

-- y, another number than r, is as near to √x as r is: √x is their mean.
abbrev pub AsNear : Float → Float → Float → Type 0
AsNear x r y = sum_squared x r y ≡ four_times x r y

-- Rule F10 (4.3.1, roundTiesToEven): r is √x, for an x above zero, rounded to the format f: of f's numbers none is nearer, and where another is as
-- near, r is the even one, by its last digit.
-- An infinity or a NaN is no number. No root overflows, as √x is at most x or at most 1.
pub record Rounded (f : Format) (x r : Float) : Type 0 where
  pub held : T (fits f r)
  pub above_zero : T (positive r)
  pub nearest : (y : Float) → T (fits f y) → T (finite y) → NoNearer x r y
  pub even : (y : Float) → T (fits f y) → T (finite y) → (y ≡ r → ⊥) → AsNear x r y → to_bits f r % 2 ≡ 0

-- Rule F10 (5.4.1, 6.1, 6.2, 6.3, 7.2): what the square root in the format f is of each value of f.
pub record SquareRoot (f : Format) (root : Float → Float) : Type 0 where
  pub of_nan : root nan ≡ nan
  pub of_infinity : root (inf false) ≡ inf false
  pub of_minus_infinity : root (inf true) ≡ nan
  pub of_zero : (s : Bool) → root (fin s 0 (pos 0)) ≡ fin s 0 (pos 0)
  pub of_negative : (m : ℕ) (e : ℤ) → 0 < m → root (fin true m e) ≡ nan
  pub of_positive : (m : ℕ) (e : ℤ) → 0 < m → T (fits f (fin false m e)) → Rounded f (fin false m e) (root (fin false m e))
