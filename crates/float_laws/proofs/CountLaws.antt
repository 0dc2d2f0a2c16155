-- Exact results: a result that is q / 2 ^ t, with a q of no more digits than the format keeps, is not changed by rounding. So n is exact as a float, so is
-- its half, and the distance of the half from another count; and two values at least zero are in the order of their numbers.
use mathlib.Core.Path.{◌≡◌, refl, sym, ap, ◌∙◌, subst}
use mathlib.Core.Bool.{Bool, true, false, true≢false}
use Prim.Native.Nat.{ℕ, ◌+◌, ◌-◌, ◌*◌, ◌^◌, ◌≤◌, ◌<◌}
use native.Mathlib.Nat.{mul_assoc, lt_of_lt_of_le, le_of_mul-le-mul_right, sub-add_cancel, mul-le-mul_right, zero-lt-suc, mul-pos}
use native.Mathlib.Omega.{arith}
use lib.Dec.{T, leb, leb→le, le→leb, lit≤}
use lib.IntN.{pos}
use lib.Pow.{pow-add, pow_pos, pow_mono, shl_lt}
use lib.Ieee.{Float, nan, inf, fin, Format, binary32, prec, low, up, down, round, le, div, sub, of_int, of_bits}
use lib.Ieee.Fits.{reach, down_pos}
use lib.Ieee.Exact.{HasValue, round_exact}
use lib.Ieee.Order.{transfer, le_of_values}
use lib.Ieee.Scale.{round_same}
use Rattle.base.proofs.Truth.{T_ext}
use Rattle.float32.specs.Comparison.{meaning, ratio, Same}
use Rattle.float32.specs.Counts.{of_count}
use Rattle.float32.specs.Signs.{abs_of}
use Rattle.float32.specs.Signed.{apart}
use Rattle.float_laws.specs.RoundStandard.{TiesToEven}
use Rattle.float32.proofs.Order.{le→cross}
use Rattle.float_laws.proofs.Standard.Distances.{apart_whole}
use Rattle.float_laws.proofs.Standard.Unique.{only_value}
use Rattle.float_laws.proofs.Standard.Arithmetic.{division, subtraction, from_integer}

-- ---- q / 2 ^ t
few_digits : (f : Format) (s : Bool) (q t : ℕ) → q < 2 ^ prec f → t ≤ low f → HasValue (round f s q (2 ^ t)) s q (2 ^ t)
few_digits f s q t h k =
    let j = low f - t in
    let units : 2 ^ low f ≡ 2 ^ j * 2 ^ t = ap (λ (z : ℕ). 2 ^ z) (sym (sub-add_cancel k)) ∙ pow-add 2 j t in
    round_exact f s q (2 ^ t) q j (pow_pos t) h
    (lt_of_lt_of_le (shl_lt (prec f) j h) (pow_mono (omega (arith, reach f))))
    (ap (λ (z : ℕ). q * z) units ∙ sym (mul_assoc q (2 ^ j) (2 ^ t)))

-- Whatever is a / c, rounded, is a / c itself where that is such a number.
pub exact_at : (f : Format) (s : Bool) (a c q t : ℕ) (r : Float) → 0 < c → q < 2 ^ prec f → t ≤ low f → a * 2 ^ t ≡ q * c → TiesToEven f s a c r
    → HasValue r s q (2 ^ t)
exact_at f s a c q t r C h k e i =
    subst (λ (v : Float). HasValue v s q (2 ^ t)) (sym (only_value f s a c r C i ∙ round_same f s a c q (2 ^ t) C (pow_pos t) e)) (few_digits f s q t h k)

-- ---- Rule F11: n as a float is n
pub of_count_value : (n : ℕ) → n < 2 ^ 24 → HasValue (of_count n) false n 1
unfolding of_count
of_count_value n h = exact_at binary32 false n 1 n 0 (of_int binary32 (pos n)) (zero-lt-suc 0) h (lit≤ tt) refl ((from_integer binary32).at_least_zero n)

stands_for : (x : Float) (n : ℕ) → HasValue x false n 1 → Same (meaning x) (ratio n 0 1)
stands_for nan n h = absurd h
stands_for (inf s) n h = absurd h
stands_for (fin s m e) n h = subst (λ (s : Bool). Same (meaning (fin s m e)) (ratio n 0 1)) (sym h.0) (omega (arith, h.1))

pub of_count_exact : (n : ℕ) → n < 2 ^ 24 → Same (meaning (of_count n)) (ratio n 0 1)
of_count_exact n h = stands_for (of_count n) n (of_count_value n h)

-- ---- n / 2, and its distance from c
abbrev pub two : Float
two = of_bits binary32 0x4000_0000

pub half_value : (x : Float) (n : ℕ) → n < 2 ^ 24 → HasValue x false n 1 → HasValue (div binary32 x two) false n 2
unfolding of_bits
half_value nan n h v = absurd v
half_value (inf s) n h v = absurd v
half_value (fin s m e) n h v =
    subst (λ (s : Bool). HasValue (div binary32 (fin s m e) two) false n 2) (sym v.0)
    (exact_at binary32 false (m * up e * 1) (2 * down e) n 1 (div binary32 (fin false m e) two) (mul-pos (zero-lt-suc 1) (down_pos e)) h (lit≤ tt)
    (omega (arith, v.1)) ((division binary32).numbers (fin false m e) two tt tt (zero-lt-suc 1)))

abs_value : (x : Float) (s : Bool) (a c : ℕ) → HasValue x s a c → HasValue (abs_of x) false a c
unfolding abs_of
abs_value nan s a c h = absurd h
abs_value (inf t) s a c h = absurd h
abs_value (fin t m e) s a c h = (refl, h.1)

pub distance_value : (h y : Float) (n c : ℕ) → apart n (2 * c) < 2 ^ 24 → HasValue h false n 2 → HasValue y false c 1
    → HasValue (abs_of (sub binary32 h y)) false (apart n (2 * c)) 2
distance_value nan y n c l v w = absurd v
distance_value (inf s) y n c l v w = absurd v
distance_value (fin s m e) nan n c l v w = absurd w
distance_value (fin s m e) (inf t) n c l v w = absurd w
distance_value (fin true m e) (fin t n' d) n c l v w = absurd (true≢false v.0)
distance_value (fin false m e) (fin true n' d) n c l v w = absurd (true≢false w.0)
distance_value (fin false m e) (fin false n' d) n c l v w =
    let x = fin false m e in
    let y = fin false n' d in
    abs_value (sub binary32 x y) _ (apart n (2 * c)) 2
    (exact_at binary32 _ _ (down e * down d) (apart n (2 * c)) 1 (sub binary32 x y) (mul-pos (down_pos e) (down_pos d)) l (lit≤ tt)
    (apart_whole _ _ 2 (down e * down d) n (2 * c) (left (m * up e) (down e) (down d) v.1) (right (n' * up d) (down e) (down d) w.1))
    ((subtraction binary32).numbers x y tt tt))
  where
    left : (a d g : ℕ) → a * 2 ≡ n * d → (a * g + 0 * d) * 2 ≡ n * (d * g)
    left a d g e = omega (arith, ap (λ (z : ℕ). z * g) e)

    right : (b d g : ℕ) → b * 1 ≡ c * g → (0 * g + b * d) * 2 ≡ 2 * c * (d * g)
    right b d g e = omega (arith, ap (λ (z : ℕ). z * d) e)

-- ---- the order of values that are at least zero
le→values : (x y : Float) (a b c : ℕ) → 0 < c → HasValue x false a c → HasValue y false b c → T (le x y) → a ≤ b
le→values nan y a b c C v w h = absurd v
le→values (inf s) y a b c C v w h = absurd v
le→values (fin s m e) nan a b c C v w h = absurd w
le→values (fin s m e) (inf t) a b c C v w h = absurd w
le→values (fin true m e) (fin t n d) a b c C v w h = absurd (true≢false v.0)
le→values (fin false m e) (fin true n d) a b c C v w h = absurd (true≢false w.0)
le→values (fin false m e) (fin false n d) a b c C v w h =
    le_of_mul-le-mul_right
    (transfer a b c c (m * up e) (n * up d) (down e) (down d) (down_pos e) (down_pos d) (sym v.1) (sym w.1)
    (omega (arith, le→cross (fin false m e) (fin false n d) tt tt h))) C

pub le_is : (x y : Float) (a b c : ℕ) → 0 < c → HasValue x false a c → HasValue y false b c → le x y ≡ leb a b
le_is x y a b c C v w =
    T_ext (le x y) (leb a b) (λ h. le→leb a b (le→values x y a b c C v w h))
    (λ h. le_of_values x y a c b c C C v w (mul-le-mul_right c (leb→le a b h)))
