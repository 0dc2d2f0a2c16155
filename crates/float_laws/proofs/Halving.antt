-- Half of a positive value: it lies between 0 and the value, and is exact where the half is a whole number of the format's smallest units, so from
-- twice the smallest normal value on.
use mathlib.Core.Path.{◌≡◌, refl, sym, subst}
use mathlib.Core.Bool.{true, false}
use Prim.Native.Nat.{ℕ, suc, ◌*◌, ◌^◌, ◌≤◌, ◌<◌}
use native.Mathlib.Nat.{mul-one, pow-suc, le_trans, le_of_eq, lt_of_le_of_lt, le-mul_of_pos_right, mul-lt-mul_of_pos_right, lt_of_mul-lt-mul_left}
use native.Mathlib.Omega.{arith}
use lib.Dec.{T, lit≤}
use lib.IntN.{ℤ, pos, negsuc}
use lib.Pow.{pow_pos, pow_mono}
use lib.Ieee.{Float, nan, inf, fin, Format, binary32, binary64, prec, low, up, down, round, mul, le, fits, of_bits}
use lib.Ieee.Fits.{up_pos, down_pos}
use lib.Ieee.Exact.{HasValue}
use lib.Ieee.Order.{round_mono}
use lib.Ieee.Positive.{num, den, positive}
use Rattle.float32.proofs.Rounding.{zero_le_round}
use Rattle.float32.proofs.Exactness.{digits, round_self, round_quotient, pow_lt→lt}

abbrev pub half : Float
half = fin false 1 (negsuc 0)

-- as the code writes 0.5
pub half_bits : of_bits binary32 0x3f00_0000 ≡ half
unfolding of_bits
half_bits = refl

mul_half : (f : Format) (m : ℕ) (e : ℤ) → mul f (fin false m e) half ≡ round f false (m * up e) (down e * 2)
unfolding mul
mul_half f m e = rw mul-one

pub half_ge_zero : (f : Format) (x : Float) → T (positive x) → T (le (fin false 0 (pos 0)) (mul f x half))
half_ge_zero f nan p = absurd p
half_ge_zero f (inf s) p = absurd p
half_ge_zero f (fin true m e) p = absurd p
half_ge_zero f (fin false m e) p = rw (mul_half f m e) (zero_le_round f (m * up e) (down e * 2) (omega (arith, down_pos e)))

pub half_le : (f : Format) (x : Float) → T (positive x) → T (fits f x) → T (le (mul f x half) x)
half_le f nan p q = absurd p
half_le f (inf s) p q = absurd p
half_le f (fin true m e) p q = absurd p
half_le f (fin false m e) p q =
    rw (mul_half f m e)
    (subst (λ (z : Float). T (le (round f false (m * up e) (down e * 2)) z)) (round_self f false m e q)
    (round_mono f (m * up e) (down e * 2) (m * up e) (down e) (omega (arith, down_pos e)) (down_pos e) (omega arith)))

pub half_exact : (f : Format) (x : Float) → T (positive x) → T (fits f x) → den x * 2 ≤ 2 ^ low f → HasValue (mul f x half) false (num x) (den x * 2)
half_exact f nan p q h = absurd p
half_exact f (inf s) p q h = absurd p
half_exact f (fin true m e) p q h = absurd p
half_exact f (fin false m e) p q h =
    rw (mul_half f m e) (round_quotient f false m e 1 q (omega (arith, le-mul_of_pos_right (2 ^ low f) (up_pos e))))

-- ---- twice the smallest normal value is 2 ^ prec units
low_pos : (f : Format) → 1 ≤ low f
low_pos binary32 = lit≤ tt
low_pos binary64 = lit≤ tt

-- a value that fits and is no less has units to spare
pub normal_den : (f : Format) (x : Float) → T (positive x) → T (fits f x) → 2 ^ prec f * den x ≤ num x * 2 ^ low f → den x * 2 ≤ 2 ^ low f
normal_den f nan p q h = absurd p
normal_den f (inf s) p q h = absurd p
normal_den f (fin true m e) p q h = absurd p
normal_den f (fin false m (pos k)) p q h = pow_mono (low_pos f)
normal_den f (fin false m (negsuc k)) p q h =
    let a : 2 ^ prec f * 2 ^ suc k < 2 ^ prec f * 2 ^ low f =
    lt_of_le_of_lt h (rw mul-one (mul-lt-mul_of_pos_right (digits f false m (negsuc k) q).few (pow_pos (low f)))) in
    let b : suc k < low f = pow_lt→lt (suc k) (low f) (lt_of_mul-lt-mul_left (2 ^ prec f) a) in
    le_trans (le_of_eq (sym (pow-suc 2 (suc k)))) (pow_mono b)

pub half_exact_normal : (f : Format) (x : Float) → T (positive x) → T (fits f x) → 2 ^ prec f * den x ≤ num x * 2 ^ low f
    → HasValue (mul f x half) false (num x) (den x * 2)
half_exact_normal f x p q h = half_exact f x p q (normal_den f x p q h)
