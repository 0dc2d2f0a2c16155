-- √x by x's pattern, for every pattern: above zero and finite, where the code works the root out; its own root; or none. By the number that a pattern
-- stands for.
use mathlib.Core.Path.{◌≡◌, refl, sym, ap, ◌∙◌, subst}
use mathlib.Core.Logic.{inl, inr}
use mathlib.Core.Bool.{Bool, true, false, cond}
use Prim.Native.Nat.{ℕ, zero, suc, ◌+◌, ◌-◌, ◌*◌, ◌/◌, ◌%◌, ◌^◌, ◌≤◌, ◌<◌}
use native.Mathlib.Nat.{lt_of_lt_of_le, mul_assoc, mul_right_comm, mul-one, mul-pos, eq-or-lt_of_le}
use native.Mathlib.Omega.{arith}
use native.Mathlib.Decide.{dec_le}
use lib.Dec.{leb, ltb, eqb}
use lib.Pow.{pow-add, pow_pos, pow_mono, shl_lt}
use lib.Ieee.{Float, nan, inf, fin, binary32, up, down, odd, units, div, of_fields, of_bits}
use lib.Ieee.Fits.{down_pos}
use lib.Ieee.Exact.{HasValue, odd_sign}
use lib.Ieee.Positive.{first_pos}
use borrow.Author.Tests.{lt-leb, le-leb, lt-ltb, le-ltb, ne_eqb, eq-eqb}
use Rattle.float32.specs.SquareRoot.{isqrt, root, sqrt_of}
use Rattle.float32.specs.RootSteps.{magnitude, rounded, radicand, root_bits, Scales}
use Rattle.float32.proofs.Patterns.{a_nan, zero_by_zero}
use Rattle.float32.proofs.root.Radicand.{radicand_ge, radicand_lt, kept_ge, kept_lt}
use Rattle.float32.proofs.root.Kept.{four, root_is}
use Rattle.float32.proofs.root.Written.{units_pattern}

-- ---- the number that a pattern stands for, with its sign
abbrev amount : ℕ → ℕ → ℕ
amount x t = cond (eqb x 0) t ((0x80_0000 + t) * 2 ^ (x - 1))

fields : (s : Bool) (x t : ℕ) → x < 255 → HasValue (of_fields binary32 s x t) s (amount x t) (2 ^ 149)
unfolding of_fields
fields s zero t h = subst (λ (z : ℕ). HasValue (odd 24 s t 0 149) s z (2 ^ 149)) (mul-one t) (odd_sign 24 s t 0 149)
fields s (suc x) t h =
    subst (λ (b : Bool). HasValue (cond b (cond (eqb t 0) (inf s) nan) (odd 24 s (0x80_0000 + t) x 149)) s (amount (suc x) t) (2 ^ 149))
    (sym (ne_eqb (suc x) 255 (omega arith)))
    (subst (λ (z : ℕ). HasValue (odd 24 s (0x80_0000 + t) x 149) s z (2 ^ 149))
    (ap (λ (z : ℕ). (0x80_0000 + t) * 2 ^ z) less ∙ sym (ap (λ (b : Bool). cond b t ((0x80_0000 + t) * 2 ^ (suc x - 1))) (ne_eqb (suc x) 0 (omega arith))))
    (odd_sign 24 s (0x80_0000 + t) x 149))
  where
    less : x ≡ suc x - 1
    less = omega arith

amount_is : (b : ℕ) → amount (b / 0x80_0000) (b % 0x80_0000) ≡ magnitude b
amount_is b = go (dec_le 0x80_0000 b)
  where
    normal : ℕ
    normal = (0x80_0000 + b % 0x80_0000) * 2 ^ (b / 0x80_0000 - 1)

    all : b < 0x80_0000 → b % 0x80_0000 ≡ b
    all h = omega arith

    go : Dec (0x80_0000 ≤ b) → amount (b / 0x80_0000) (b % 0x80_0000) ≡ magnitude b
    go (yes h) =
        ap (λ (t : Bool). cond t (b % 0x80_0000) normal) (ne_eqb (b / 0x80_0000) 0 (omega arith))
        ∙ sym (ap (λ (t : Bool). cond t b normal) (le-ltb b 0x80_0000 h))
    go (no h) =
        ap (λ (t : Bool). cond t (b % 0x80_0000) normal) (eq-eqb (b / 0x80_0000) 0 (omega arith))
        ∙ all (omega arith)
        ∙ sym (ap (λ (t : Bool). cond t b normal) (lt-ltb b 0x80_0000 (omega arith)))

of_bits_is : (b : ℕ) → of_bits binary32 b ≡ of_fields binary32 (leb 0x8000_0000 b) (b % 0x8000_0000 / 0x80_0000) (b % 0x80_0000)
unfolding of_bits
of_bits_is b = refl

-- c is the pattern without its sign.
pub value_is : (b : ℕ) (s : Bool) (c : ℕ) → leb 0x8000_0000 b ≡ s → b % 0x8000_0000 ≡ c → c < 0x7f80_0000
    → HasValue (of_bits binary32 b) s (magnitude c) (2 ^ 149)
value_is b s c sign rest h =
    subst (λ (v : Float). HasValue v s (magnitude c) (2 ^ 149))
    (sym
    (of_bits_is b
    ∙ ap (λ (s : Bool). of_fields binary32 s (b % 0x8000_0000 / 0x80_0000) (b % 0x80_0000)) sign
    ∙ ap (λ (c : ℕ). of_fields binary32 s (c / 0x80_0000) (b % 0x80_0000)) rest
    ∙ ap (λ (t : ℕ). of_fields binary32 s (c / 0x80_0000) t) digits))
    (subst (λ (z : ℕ). HasValue (of_fields binary32 s (c / 0x80_0000) (c % 0x80_0000)) s z (2 ^ 149)) (amount_is c)
    (fields s (c / 0x80_0000) (c % 0x80_0000) (omega arith)))
  where
    digits : b % 0x80_0000 ≡ c % 0x80_0000
    digits = omega arith

magnitude_pos : (b : ℕ) → 0 < b → 0 < magnitude b
magnitude_pos b h = go (ltb b 0x80_0000)
  where
    go : (t : Bool) → 0 < cond t b ((0x80_0000 + b % 0x80_0000) * 2 ^ (b / 0x80_0000 - 1))
    go true = h
    go false = mul-pos {m = 0x80_0000 + b % 0x80_0000} (omega arith) (pow_pos (b / 0x80_0000 - 1))

-- a number above zero has a significand above 0
some : (m a : ℕ) (u d : ℕ) → 0 < a → 0 < d → m * u * 2 ^ 149 ≡ a * d → m ≡ 0 → ⊥
some m a u d A D e z = omega (arith, first_pos m u (first_pos (m * u) (2 ^ 149) (subst (λ (x : ℕ). 0 < x) (sym e) (mul-pos A D))))

-- ---- above zero and finite
radicand_is : (m h : ℕ) → radicand m h * 4 ^ (h / 2) ≡ m * 2 ^ h * 0x80_0000
radicand_is m h =
    mul_assoc m (2 ^ (23 + h % 2)) (4 ^ (h / 2))
    ∙ ap (λ (z : ℕ). m * (2 ^ (23 + h % 2) * z)) (four (h / 2) ∙ sym (pow-add 2 (h / 2) (h / 2)))
    ∙ ap (λ (z : ℕ). m * z) (sym (pow-add 2 (23 + h % 2) (h / 2 + h / 2)) ∙ ap (λ (z : ℕ). 2 ^ z) halves ∙ pow-add 2 h 23)
    ∙ sym (mul_assoc m (2 ^ h) 0x80_0000)
  where
    halves : 23 + h % 2 + (h / 2 + h / 2) ≡ h + 23
    halves = omega arith

-- n / d is a smallest values, and m * 2 ^ h is a * 2 ^ 126
scaled : (n d a m h : ℕ) → n * 2 ^ 149 ≡ a * d → m * 2 ^ h ≡ a * 2 ^ 126 → n * 4 ^ 149 ≡ radicand m h * 4 ^ (h / 2) * d
scaled n d a m h e k =
    sym (mul_assoc n (2 ^ 149) (2 ^ 149))
    ∙ ap (λ (z : ℕ). z * 2 ^ 149) e
    ∙ mul_right_comm a d (2 ^ 149)
    ∙ ap (λ (z : ℕ). z * d) (sym (mul_assoc a (2 ^ 126) 0x80_0000) ∙ ap (λ (z : ℕ). z * 0x80_0000) (sym k) ∙ sym (radicand_is m h))

root_of_scaled : (v : Float) (b m h : ℕ) → 0 < b → Scales b m h → HasValue v false (magnitude b) (2 ^ 149)
    → sqrt_of binary32 v ≡ units binary32 false (rounded (radicand m h) (isqrt (radicand m h))) (h / 2)
unfolding sqrt_of
root_of_scaled nan b m h B s k = absurd k
root_of_scaled (inf t) b m h B s k = absurd k
root_of_scaled (fin t n e) b m h B s k =
    ap (λ (z : Bool). cond z (fin t n e) (cond t nan (root binary32 (n * up e) (down e))))
    (ne_eqb n 0 (some n (magnitude b) (up e) (down e) (magnitude_pos b B) (down_pos e) k.1))
    ∙ ap (λ (z : Bool). cond z nan (root binary32 (n * up e) (down e))) k.0
    ∙ root_is binary32 (radicand m h) (h / 2) (radicand_ge m h s.least s.most) (radicand_lt m h s.least s.most) (n * up e) (down e) (down_pos e)
    (scaled (n * up e) (down e) (magnitude b) m h k.1 s.same)

pub above_zero : (b m h : ℕ) → 0 < b → b < 0x7f80_0000 → Scales b m h → of_bits binary32 (root_bits m h) ≡ sqrt_of binary32 (of_bits binary32 b)
above_zero b m h B k s =
    let q = rounded (radicand m h) (isqrt (radicand m h)) in
    let q-lt : q < 2 ^ 24 = kept_lt m h s.least s.most in
    units_pattern binary32 q (h / 2) q-lt (inr (kept_ge m h s.least s.most)) (lt_of_lt_of_le (shl_lt 24 (h / 2) q-lt) (pow_mono (half s.power)))
    ∙ sym (root_of_scaled (of_bits binary32 b) b m h B s (value_is b false b (lt-leb 0x8000_0000 b (omega arith)) (omega arith) k))
  where
    half : h < 380 → 24 + h / 2 ≤ 277
    half l = omega arith

pub root_finite : (b m h : ℕ) → Scales b m h → root_bits m h < 0x7f80_0000
root_finite b m h s = go (rounded (radicand m h) (isqrt (radicand m h))) (kept_lt m h s.least s.most) s.power
  where
    go : (q : ℕ) → q < 0x100_0000 → h < 380 → h / 2 * 0x80_0000 + q < 0x7f80_0000
    go q k l = omega arith

-- ---- the zeros and the infinity are their own roots
pub zero_root : of_bits binary32 0 ≡ sqrt_of binary32 (of_bits binary32 0)
unfolding of_bits sqrt_of
zero_root = refl

pub minus_zero_root : of_bits binary32 0x8000_0000 ≡ sqrt_of binary32 (of_bits binary32 0x8000_0000)
unfolding of_bits sqrt_of
minus_zero_root = refl

pub infinity_root : of_bits binary32 0x7f80_0000 ≡ sqrt_of binary32 (of_bits binary32 0x7f80_0000)
unfolding of_bits sqrt_of
infinity_root = refl

-- ---- below zero, and no number
minus_infinity_root : sqrt_of binary32 (of_bits binary32 0xff80_0000) ≡ nan
unfolding of_bits sqrt_of
minus_infinity_root = refl

nan_root : sqrt_of binary32 nan ≡ nan
unfolding sqrt_of
nan_root = refl

negative_root : (v : Float) (a : ℕ) → 0 < a → HasValue v true a (2 ^ 149) → sqrt_of binary32 v ≡ nan
unfolding sqrt_of
negative_root nan a A k = absurd k
negative_root (inf t) a A k = absurd k
negative_root (fin t n e) a A k =
    ap (λ (z : Bool). cond z (fin t n e) (cond t nan (root binary32 (n * up e) (down e)))) (ne_eqb n 0 (some n a (up e) (down e) A (down_pos e) k.1))
    ∙ ap (λ (z : Bool). cond z nan (root binary32 (n * up e) (down e))) k.0

pub no_root : (b : ℕ) → b < 0x1_0000_0000 → 0x7f80_0000 ≤ b → (b ≡ 0x7f80_0000 → ⊥) → (b ≡ 0x8000_0000 → ⊥)
    → div binary32 (of_bits binary32 0) (of_bits binary32 0) ≡ sqrt_of binary32 (of_bits binary32 b)
no_root b w h x y = zero_by_zero ∙ sym (go (dec_le 0x7f80_0000 (b % 0x8000_0000)))
  where
    go : Dec (0x7f80_0000 ≤ b % 0x8000_0000) → sqrt_of binary32 (of_bits binary32 b) ≡ nan
    go (no k) =
        let c = b % 0x8000_0000 in
        let signed : 0x8000_0000 ≤ b = omega arith in
        negative_root (of_bits binary32 b) (magnitude c) (magnitude_pos c (omega arith)) (value_is b true c (le-leb 0x8000_0000 b signed) refl (omega arith))
    go (yes k) = elim (eq-or-lt_of_le k) [
      | inl e ↦ subst (λ (z : ℕ). sqrt_of binary32 (of_bits binary32 z) ≡ nan) (at e) minus_infinity_root
      | inr l ↦ ap (sqrt_of binary32) (a_nan b l) ∙ nan_root
    ]
      where
        at : 0x7f80_0000 ≡ b % 0x8000_0000 → 0xff80_0000 ≡ b
        at e = omega arith
