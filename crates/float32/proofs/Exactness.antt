-- Where rounding changes nothing: a value that fits its format is its own rounding, and so is that value over a power of two, down to the format's
-- smallest unit.
use mathlib.Core.Path.{◌≡◌, refl, sym, ap, ◌∙◌}
use mathlib.Core.Bool.{Bool, true, false, cond, ◌&&◌}
use Prim.Native.Nat.{ℕ, zero, suc, ◌+◌, ◌-◌, ◌*◌, ◌/◌, ◌%◌, ◌^◌, ◌≤◌, ◌<◌}
use native.Mathlib.Nat.{zero-mul, mul_assoc, mul_comm, mul_right_comm, mul-one, mul-lt-mul_of_pos_right, lt_of_mul-lt-mul_right}
use native.Mathlib.Nat.{lt_of_not-le, not-le_of_lt, le_of_suc-le-suc, sub-add_cancel, le-mul_of_pos_right, le_trans, mul-pos}
use native.Mathlib.Omega.{arith}
use lib.Dec.{T, eqb, ltb, leb, ltb→lt, leb→le, eqb→eq}
use lib.IntN.{ℤ, pos, negsuc}
use lib.Pow.{pow-add, pow_pos, pow-lt, pow_mono}
use lib.Ieee.{Float, nan, inf, fin, Format, prec, emax, low, up, down, size, hid, top, round, fits, to_bits, of_bits}
use lib.Ieee.Fits.{and_l, and_r, up_pos, down_pos, round-fits}
use lib.Ieee.Bits.{of_bits-to_bits}
use lib.Ieee.Exact.{HasValue, round_exact}
use lib.Ieee.Nearest.{div_same}
use lib.Ieee.Scale.{finite}
use lib.Ieee.Positive.{den}
use Rattle.float32.specs.Signed.{over, under}
use Rattle.float32.proofs.Rounding.{Rounded, above, below}

-- ---- of each number and sign a format holds one value
abbrev pub pattern : Format → Bool → ℕ → ℕ
pattern f s n = let k = size n - prec f in cond s (top f) 0 + k * hid f + n / 2 ^ k

pub to_bits_value_lem : (f : Format) (x : Float) (s : Bool) (a c : ℕ) → 0 < c → HasValue x s a c → to_bits f x ≡ pattern f s (a * 2 ^ low f / c)
unfolding to_bits
to_bits_value_lem f nan s a c C h = absurd h
to_bits_value_lem f (inf t) s a c C h = absurd h
to_bits_value_lem f (fin t m e) s a c C h =
    let i : m * up e * 2 ^ low f / down e ≡ a * 2 ^ low f / c =
    div_same (m * up e * 2 ^ low f) (down e) (a * 2 ^ low f) c (down_pos e) C
    (mul_right_comm (m * up e) (2 ^ low f) c ∙ ap (λ (z : ℕ). z * 2 ^ low f) h.1 ∙ mul_right_comm a (down e) (2 ^ low f)) in
    rw (h.0, i)

pub fits_unique : (f : Format) (x y : Float) (s : Bool) (a c : ℕ) → 0 < c → T (fits f x) → T (fits f y) → HasValue x s a c → HasValue y s a c → x ≡ y
fits_unique f x y s a c C p q h k =
    sym (of_bits-to_bits f x p) ∙ ap (of_bits f) (to_bits_value_lem f x s a c C h ∙ sym (to_bits_value_lem f y s a c C k)) ∙ of_bits-to_bits f y q

-- ---- a power of two, as an exponent
rise : ℤ → ℕ
rise (pos k) = k
rise (negsuc k) = 0

fall : ℤ → ℕ
fall (pos k) = 0
fall (negsuc k) = suc k

up_is : (e : ℤ) → up e ≡ 2 ^ rise e
unfolding rise
up_is (pos k) = refl
up_is (negsuc k) = refl

down_is : (e : ℤ) → down e ≡ 2 ^ fall e
unfolding fall
down_is (pos k) = refl
down_is (negsuc k) = refl

pow_le→le : (i j : ℕ) → 2 ^ i ≤ 2 ^ j → i ≤ j
pow_le→le i j h = le_of_suc-le-suc (lt_of_not-le (λ (k : suc j ≤ i). not-le_of_lt (pow-lt k) h))

pub pow_lt→lt : (i j : ℕ) → 2 ^ i < 2 ^ j → i < j
pow_lt→lt i j h = lt_of_not-le (λ (k : j ≤ i). not-le_of_lt h (pow_mono k))

-- with 2 ^ t times as large a divisor the fraction is still a whole number of units
quotient : (e : ℤ) (l t : ℕ) → down e * 2 ^ t ≤ up e * 2 ^ l → (j : ℕ) × (up e * 2 ^ l ≡ 2 ^ j * (down e * 2 ^ t))
quotient e l t h =
    let a : up e * 2 ^ l ≡ 2 ^ (rise e + l) = ap (λ (z : ℕ). z * 2 ^ l) (up_is e) ∙ sym (pow-add 2 (rise e) l) in
    let b : down e * 2 ^ t ≡ 2 ^ (fall e + t) = ap (λ (z : ℕ). z * 2 ^ t) (down_is e) ∙ sym (pow-add 2 (fall e) t) in
    let k : fall e + t ≤ rise e + l = pow_le→le (fall e + t) (rise e + l) (rw (a, b) at h) in
    let j = rise e + l - (fall e + t) in
    (j, a ∙ ap (λ (z : ℕ). 2 ^ z) (sym (sub-add_cancel k)) ∙ pow-add 2 j (fall e + t) ∙ ap (λ (z : ℕ). 2 ^ j * z) (sym b))

-- ---- what it takes to fit
pub record Digits (f : Format) (m : ℕ) (e : ℤ) : Type 0 where
  pub few : m < 2 ^ prec f
  pub fine : down e ≤ 2 ^ low f
  pub below : m * up e < 2 ^ suc (emax f) * down e

pub digits : (f : Format) (s : Bool) (m : ℕ) (e : ℤ) → T (fits f (fin s m e)) → Digits f m e
unfolding fits
digits f s zero e t =
    let h : up e * down e ≡ 1 = eqb→eq (up e * down e) 1 t in
    let k : down e ≤ 1 = rw h at (rw mul_comm at (le-mul_of_pos_right (down e) (up_pos e))) in
    record { few = pow_pos (prec f); fine = le_trans k (pow_pos (low f)); below = rw zero-mul (mul-pos (pow_pos (suc (emax f))) (down_pos e)) }
digits f s (suc m) e t =
    let a = eqb (suc m % 2) 1 in
    let b = ltb (suc m) (2 ^ prec f) in
    let c = leb (down e) (2 ^ low f) in
    let d = ltb (suc m * up e) (2 ^ suc (emax f) * down e) in
    record {
      few = ltb→lt (suc m) (2 ^ prec f) (and_r a b (and_l (a && b) c (and_l (a && b && c) d t)));
      fine = leb→le (down e) (2 ^ low f) (and_r (a && b) c (and_l (a && b && c) d t));
      below = ltb→lt (suc m * up e) (2 ^ suc (emax f) * down e) (and_r (a && b && c) d t);
    }

room : (m u l j d t b : ℕ) → 0 < t → 0 < l → m * u * l ≡ m * j * (d * t) → m * u < b * d → m * j * d < l * b * d
room m u l j d t b T L h k =
    let a : m * j * d ≤ m * j * d * t = le-mul_of_pos_right (m * j * d) T in
    let c : m * u * l < b * d * l = mul-lt-mul_of_pos_right k L in
    omega arith

-- a value that fits is a whole number of the smallest units
pub den_divides : (f : Format) (x : Float) → T (finite x) → T (fits f x) → (w : ℕ) × (2 ^ low f ≡ w * den x)
den_divides f nan p q = absurd p
den_divides f (inf s) p q = absurd p
den_divides f (fin s m e) p q =
    let k : fall e ≤ low f = pow_le→le (fall e) (low f) (rw (down_is e) at (digits f s m e q).fine) in (
      2 ^ (low f - fall e),
      ap (λ (z : ℕ). 2 ^ z) (sym (sub-add_cancel k)) ∙ pow-add 2 (low f - fall e) (fall e)
          ∙ ap (λ (z : ℕ). 2 ^ (low f - fall e) * z) (sym (down_is e)),
    )

-- ---- x / 2 ^ t, where that is a whole number of units
pub round_quotient : (f : Format) (s : Bool) (m : ℕ) (e : ℤ) (t : ℕ) → T (fits f (fin s m e)) → down e * 2 ^ t ≤ up e * 2 ^ low f
    → HasValue (round f s (m * up e) (down e * 2 ^ t)) s (m * up e) (down e * 2 ^ t)
round_quotient f s m e t p h =
    let d = digits f s m e p in
    let q = quotient e (low f) t h in
    let j = q.0 in
    let i : m * up e * 2 ^ low f ≡ m * 2 ^ j * (down e * 2 ^ t) =
    mul_assoc m (up e) (2 ^ low f) ∙ ap (λ (z : ℕ). m * z) q.1 ∙ sym (mul_assoc m (2 ^ j) (down e * 2 ^ t)) in
    round_exact f s (m * up e) (down e * 2 ^ t) m j (mul-pos (down_pos e) (pow_pos t)) d.few
    (lt_of_mul-lt-mul_right (down e) (rw pow-add
    (room m (up e) (2 ^ low f) (2 ^ j) (down e) (2 ^ t) (2 ^ suc (emax f)) (pow_pos t) (pow_pos (low f)) i d.below))) i

pub round_self : (f : Format) (s : Bool) (m : ℕ) (e : ℤ) → T (fits f (fin s m e)) → round f s (m * up e) (down e) ≡ fin s m e
round_self f s m e p =
    let h : HasValue (round f s (m * up e) (down e)) s (m * up e) (down e) =
    rw mul-one at (round_quotient f s m e 0 p (at_one (up_pos e) (digits f s m e p).fine)) in
    fits_unique f (round f s (m * up e) (down e)) (fin s m e) s (m * up e) (down e) (down_pos e) (round-fits f s (m * up e) (down e)) p h (refl, refl)
  where
    at_one : 0 < up e → down e ≤ 2 ^ low f → down e * 1 ≤ up e * 2 ^ low f
    at_one u h = omega (arith, le_trans h (le-mul_of_pos_right (2 ^ low f) u))

pub self_rounded : (f : Format) (x : Float) → T (finite x) → T (fits f x) → Rounded f x (over x) (under x) (den x)
self_rounded f nan p q = absurd p
self_rounded f (inf s) p q = absurd p
self_rounded f (fin false m e) p q = above (omega arith) (sym (round_self f false m e q) ∙ ap (λ (z : ℕ). round f false z (down e)) (omega arith))
self_rounded f (fin true m e) p q = below (omega arith) (sym (round_self f true m e q) ∙ ap (λ (z : ℕ). round f true z (down e)) (omega arith))
