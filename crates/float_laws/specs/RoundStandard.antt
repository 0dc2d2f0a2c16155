-- What IEEE 754-2019 says of rounding: roundTiesToEven (4.3.1), and the sign of a zero (6.3). Definitions only.
-- The exact number x is the fraction ± a / c, below zero where s is true; a finite value y is ± num y / den y. Every statement is one about natural
-- numbers: fractions are compared by cross-multiplying.
use Rattle.std.specs.Prelude.{ℕ, suc, ◌+◌, ◌-◌, ◌*◌, ◌%◌, ◌^◌, ◌≤◌, ◌<◌, ◌≡◌, Bool, cond, T, Float}
use Rattle.std.specs.Bool.{beq}
use Rattle.std.specs.Float.{inf, Format}
use Rattle.std.specs.Float.Ieee.{prec, emax, fits, to_bits}
use Rattle.std.specs.Float.Ieee.Positive.{num, den}
use Rattle.std.specs.Float.Ieee.Scale.{finite}
use Rattle.float32.specs.Signed.{negative, apart}

-- The distance of two numbers of these sizes: of numbers with like signs the difference of the sizes, of numbers with unlike signs their sum.
abbrev pub spread : Bool → ℕ → ℕ → ℕ
spread alike a b = cond alike (apart a b) (a + b)

-- |x - y|, times c * den y
abbrev pub distance : Bool → ℕ → ℕ → Float → ℕ
distance s a c y = spread (beq s (negative y)) (a * den y) (num y * c)

-- |x - r| ≤ |x - y|, and |x - r| = |x - y|
abbrev pub NoNearer : Bool → ℕ → ℕ → Float → Float → Type 0
NoNearer s a c r y = distance s a c r * den y ≤ distance s a c y * den r

abbrev pub AsNear : Bool → ℕ → ℕ → Float → Float → Type 0
AsNear s a c r y = distance s a c r * den y ≡ distance s a c y * den r

-- Rule F13: r is the number of the format f that is nearest to x: no other is nearer, and where another is as near, r is the even one, by its last digit.
-- The sign is x's, also where r is a zero or x is. (A zero of the other sign is another value, as near as r; zeros are even.)
pub record Nearest (f : Format) (s : Bool) (a c : ℕ) (r : Float) : Type 0 where
  pub held : T (fits f r)
  pub number : T (finite r)
  pub sign : negative r ≡ s
  pub nearest : (y : Float) → T (fits f y) → T (finite y) → NoNearer s a c r y
  pub even : (y : Float) → T (fits f y) → T (finite y) → (y ≡ r → ⊥) → AsNear s a c r y → to_bits f r % 2 ≡ 0

-- 2 ^ emax * (2 - 2 ^ -prec), times 2 ^ prec. From this size on x rounds to an infinity: it is the mean of the largest number and of 2 ^ (emax + 1),
-- which would be the next.
abbrev pub too_large : Format → ℕ
too_large f = 2 ^ emax f * (2 ^ suc (prec f) - 1)

-- Rule F13 (4.3.1, roundTiesToEven): r is x = ± a / c, rounded to the format f.
pub record TiesToEven (f : Format) (s : Bool) (a c : ℕ) (r : Float) : Type 0 where
  pub beyond : too_large f * c ≤ a * 2 ^ prec f → r ≡ inf s
  pub within : a * 2 ^ prec f < too_large f * c → Nearest f s a c r

-- A function that rounds every exact number so.
abbrev pub Rounds : Format → (Bool → ℕ → ℕ → Float) → Type 0
Rounds f round = (s : Bool) (a c : ℕ) → 0 < c → TiesToEven f s a c (round s a c)
