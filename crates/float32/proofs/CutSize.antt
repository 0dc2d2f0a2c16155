-- The digits of a pattern, moved down as `cut_size` moves them, are its number cut to a whole one: by the exponent's field. Assumes nothing.
use mathlib.Core.Path.{◌≡◌, sym, ap, ◌∙◌}
use mathlib.Core.Bool.{Bool, cond}
use Prim.Native.Nat.{ℕ, ◌+◌, ◌-◌, ◌*◌, ◌/◌, ◌%◌, ◌^◌, ◌≤◌, ◌<◌, min}
use native.Mathlib.Nat.{lt_of_lt_of_le, mul-le-mul, mul_right_comm, div-eq_of_lt, div-one, le-div_iff_mul-le}
use native.Mathlib.Decide.{dec_le}
use native.Mathlib.Omega.{arith}
use lib.Dec.{lit≤}
use lib.Pow.{pow_pos, pow_mono, shl-shr, shr-shr, shr_le}
use borrow.Author.Tests.{lt-ltb, le-ltb}
use Rattle.float32.specs.RootSteps.{magnitude}
use Rattle.float32.specs.CastSteps.{cut_size}

-- with the leading one
abbrev pub digits : ℕ → ℕ
digits b = 0x80_0000 + b % 0x80_0000

abbrev pub moved : ℕ → ℕ
moved b = digits b * 256 / 2 ^ min (158 - min (b / 0x80_0000) 158) 32

-- After 32 places nothing is left.
all_out : (q k : ℕ) → q < 0x1_0000_0000 → q / 2 ^ min k 32 ≡ q / 2 ^ k
all_out q k h = go (dec_le k 32)
  where
    few : k ≤ 32 → min k 32 ≡ k
    few l = omega arith

    many : 32 ≤ k → min k 32 ≡ 32
    many l = omega arith

    go : Dec (k ≤ 32) → q / 2 ^ min k 32 ≡ q / 2 ^ k
    go (yes l) = ap (λ (j : ℕ). q / 2 ^ j) (few l)
    go (no l) =
        let g : 32 ≤ k = omega arith in
        ap (λ (j : ℕ). q / 2 ^ j) (many g) ∙ div-eq_of_lt h ∙ sym (div-eq_of_lt (lt_of_lt_of_le h (pow_mono g)))

places_down : (q j : ℕ) → j ≤ 157 → q / 2 ^ (157 - j) ≡ q * 2 ^ j / 2 ^ 157
places_down q j h =
    ap (λ (k : ℕ). k / 2 ^ (157 - j)) (sym (shl-shr q j)) ∙ shr-shr (q * 2 ^ j) j (157 - j) ∙ ap (λ (k : ℕ). q * 2 ^ j / 2 ^ k) back
  where
    back : j + (157 - j) ≡ 157
    back = omega arith

-- 8 places up and down again
scaled : (d j : ℕ) → d * 256 * 2 ^ j / 2 ^ 157 ≡ d * 2 ^ j / 2 ^ 149
scaled d j =
    ap (λ (n : ℕ). n / 2 ^ 157) (mul_right_comm d 256 (2 ^ j))
    ∙ sym (shr-shr (d * 2 ^ j * 2 ^ 8) 8 149)
    ∙ ap (λ (n : ℕ). n / 2 ^ 149) (shl-shr (d * 2 ^ j) 8)

digits_lt : (b : ℕ) → digits b * 256 < 0x1_0000_0000
digits_lt b = omega arith

pub in_word : (b k : ℕ) → digits b * 256 / 2 ^ k < 0x1_0000_0000
in_word b k = omega (arith, shr_le (digits b * 256) k, digits_lt b)

subnormal : (b : ℕ) → b < 0x80_0000 → moved b ≡ magnitude b / 2 ^ 149
subnormal b h =
    ap (λ (x : ℕ). digits b * 256 / 2 ^ min (158 - min x 158) 32) field
    ∙ div-eq_of_lt (digits_lt b)
    ∙ sym (ap (λ (t : Bool). cond t b (digits b * 2 ^ (b / 0x80_0000 - 1)) / 2 ^ 149) (lt-ltb b 0x80_0000 h) ∙ div-eq_of_lt (lt_of_lt_of_le h (lit≤ tt)))
  where
    field : b / 0x80_0000 ≡ 0
    field = omega arith

normal : (b : ℕ) → 0x80_0000 ≤ b → magnitude b ≡ digits b * 2 ^ (b / 0x80_0000 - 1)
normal b h = ap (λ (t : Bool). cond t b (digits b * 2 ^ (b / 0x80_0000 - 1))) (le-ltb b 0x80_0000 h)

within : (b : ℕ) → 0x80_0000 ≤ b → b / 0x80_0000 ≤ 158 → moved b ≡ magnitude b / 2 ^ 149
within b h k =
    let j = b / 0x80_0000 - 1 in
    all_out (digits b * 256) (158 - min (b / 0x80_0000) 158) (digits_lt b)
    ∙ ap (λ (p : ℕ). digits b * 256 / 2 ^ p) (left (b / 0x80_0000) (omega arith) k)
    ∙ places_down (digits b * 256) j (omega arith)
    ∙ scaled (digits b) j
    ∙ sym (ap (λ (n : ℕ). n / 2 ^ 149) (normal b h))
  where
    left : (x : ℕ) → 0 < x → x ≤ 158 → 158 - min x 158 ≡ 157 - (x - 1)
    left x p q = omega arith

beyond : (b : ℕ) → 158 < b / 0x80_0000 → min (moved b) 0x8000_0000 ≡ cut_size b
beyond b h =
    capped (moved b) at ∙ sym (capped (magnitude b / 2 ^ 149) past)
  where
    capped : (n : ℕ) → 0x8000_0000 ≤ n → min n 0x8000_0000 ≡ 0x8000_0000
    capped n l = omega arith

    none : (x : ℕ) → 158 < x → min (158 - min x 158) 32 ≡ 0
    none x l = omega arith

    all : moved b ≡ digits b * 256
    all = ap (λ (p : ℕ). digits b * 256 / 2 ^ p) (none (b / 0x80_0000) h) ∙ div-one (digits b * 256)

    at : 0x8000_0000 ≤ moved b
    at = rw all (omega arith)

    past : 0x8000_0000 ≤ magnitude b / 2 ^ 149
    past =
        rw (normal b (omega arith))
        ((le-div_iff_mul-le (pow_pos 149)).1
        (mul-le-mul {n₁ = 0x80_0000} {n₂ = digits b} (omega arith) (pow_mono {i = 157} {j = b / 0x80_0000 - 1} (omega arith))))

pub cut_is : (b : ℕ) → min (moved b) 0x8000_0000 ≡ cut_size b
cut_is b = low (dec_le 0x80_0000 b) (dec_le (b / 0x80_0000) 158)
  where
    low : Dec (0x80_0000 ≤ b) → Dec (b / 0x80_0000 ≤ 158) → min (moved b) 0x8000_0000 ≡ cut_size b
    low (no h) k = ap (λ (n : ℕ). min n 0x8000_0000) (subnormal b (omega arith))
    low (yes h) (yes k) = ap (λ (n : ℕ). min n 0x8000_0000) (within b h k)
    low (yes h) (no k) = beyond b (omega arith)

pub cut_le : (b : ℕ) → cut_size b ≤ 0x8000_0000
cut_le b = go (magnitude b / 2 ^ 149)
  where
    go : (n : ℕ) → min n 0x8000_0000 ≤ 0x8000_0000
    go n = omega arith
