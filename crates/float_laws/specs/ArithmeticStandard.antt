-- What IEEE 754-2019 says of addition, subtraction, multiplication, division and convertFromInt (5.4.1): each gives its exact result, rounded (4.3.1).
-- With infinities (6.1), NaN (6.2), the sign of a zero (6.3), operands without a result (7.2) and division by zero (7.3). Definitions only.
use Rattle.std.specs.Prelude.{ℕ, suc, ◌+◌, ◌*◌, ◌<◌, ◌≡◌, Bool, true, false, not, ◌&&◌, T, ℤ, pos, negsuc, Float}
use Rattle.std.specs.Float.{nan, inf, fin, Format}
use Rattle.std.specs.Float.Ieee.{unlike}
use Rattle.std.specs.Float.Ieee.Positive.{num, den}
use Rattle.std.specs.Float.Ieee.Scale.{finite}
use Rattle.float32.specs.Signed.{negative, apart, over, under, sign_of}
use Rattle.float_laws.specs.RoundStandard.{TiesToEven}

-- r is (p - q) / c, rounded
abbrev pub RoundedDifference : Format → Bool → ℕ → ℕ → ℕ → Float → Type 0
RoundedDifference f z p q c r = TiesToEven f (sign_of z p q) (apart p q) c r

-- Rule F13, x + y. 6.3: a sum that is zero is -0 where both operands are negative, and +0 otherwise.
pub record Addition (f : Format) (plus : Float → Float → Float) : Type 0 where
  pub nan_left : (y : Float) → plus nan y ≡ nan
  pub nan_right : (x : Float) → plus x nan ≡ nan
  pub infinities : (s : Bool) → plus (inf s) (inf s) ≡ inf s
  pub opposites : (s : Bool) → plus (inf s) (inf (not s)) ≡ nan
  pub infinity_left : (s : Bool) (y : Float) → T (finite y) → plus (inf s) y ≡ inf s
  pub infinity_right : (x : Float) (t : Bool) → T (finite x) → plus x (inf t) ≡ inf t
  pub numbers : (x y : Float) → T (finite x) → T (finite y)
      → RoundedDifference f (negative x && negative y) (over x * den y + over y * den x) (under x * den y + under y * den x)
      (den x * den y) (plus x y)

-- Rule F13, x - y. 6.3: as x + (- y).
pub record Subtraction (f : Format) (minus : Float → Float → Float) : Type 0 where
  pub nan_left : (y : Float) → minus nan y ≡ nan
  pub nan_right : (x : Float) → minus x nan ≡ nan
  pub infinities : (s : Bool) → minus (inf s) (inf s) ≡ nan
  pub opposites : (s : Bool) → minus (inf s) (inf (not s)) ≡ inf s
  pub infinity_left : (s : Bool) (y : Float) → T (finite y) → minus (inf s) y ≡ inf s
  pub infinity_right : (x : Float) (t : Bool) → T (finite x) → minus x (inf t) ≡ inf (not t)
  pub numbers : (x y : Float) → T (finite x) → T (finite y)
      → RoundedDifference f (negative x && not (negative y)) (over x * den y + under y * den x) (under x * den y + over y * den x)
      (den x * den y) (minus x y)

-- Rule F13, x * y. 6.3: it is negative where one operand is and the other is not.
pub record Multiplication (f : Format) (times : Float → Float → Float) : Type 0 where
  pub nan_left : (y : Float) → times nan y ≡ nan
  pub nan_right : (x : Float) → times x nan ≡ nan
  pub infinities : (s t : Bool) → times (inf s) (inf t) ≡ inf (unlike s t)
  pub infinity_left : (s : Bool) (y : Float) → T (finite y) → 0 < num y → times (inf s) y ≡ inf (unlike s (negative y))
  pub infinity_right : (x : Float) (t : Bool) → T (finite x) → 0 < num x → times x (inf t) ≡ inf (unlike (negative x) t)
  pub infinity_by_zero : (s : Bool) (y : Float) → T (finite y) → num y ≡ 0 → times (inf s) y ≡ nan
  pub zero_by_infinity : (x : Float) (t : Bool) → T (finite x) → num x ≡ 0 → times x (inf t) ≡ nan
  pub numbers : (x y : Float) → T (finite x) → T (finite y)
      → TiesToEven f (unlike (negative x) (negative y)) (num x * num y) (den x * den y) (times x y)

-- Rule F13, x / y. 6.3: with the sign of a product.
pub record Division (f : Format) (quotient : Float → Float → Float) : Type 0 where
  pub nan_left : (y : Float) → quotient nan y ≡ nan
  pub nan_right : (x : Float) → quotient x nan ≡ nan
  pub infinities : (s t : Bool) → quotient (inf s) (inf t) ≡ nan
  pub infinity_left : (s : Bool) (y : Float) → T (finite y) → quotient (inf s) y ≡ inf (unlike s (negative y))
  pub infinity_right : (x : Float) (t : Bool) → T (finite x) → quotient x (inf t) ≡ fin (unlike (negative x) t) 0 (pos 0)
  pub zero_by_zero : (x y : Float) → T (finite x) → T (finite y) → num x ≡ 0 → num y ≡ 0 → quotient x y ≡ nan
  pub by_zero : (x y : Float) → T (finite x) → T (finite y) → 0 < num x → num y ≡ 0 → quotient x y ≡ inf (unlike (negative x) (negative y))
  pub numbers : (x y : Float) → T (finite x) → T (finite y) → 0 < num y
      → TiesToEven f (unlike (negative x) (negative y)) (num x * den y) (num y * den x) (quotient x y)

-- Rule F11 (5.4.1, convertFromInt): an integer as a float is it, rounded, and 0 gives +0.
pub record FromInteger (f : Format) (convert : ℤ → Float) : Type 0 where
  pub at_least_zero : (n : ℕ) → TiesToEven f false n 1 (convert (pos n))
  pub below_zero : (n : ℕ) → TiesToEven f true (suc n) 1 (convert (negsuc n))
