-- The fewest digits that hold a number are its decimal digits; and a signed number's, from its 16 bits in two's complement.
use Rattle.std.specs.Prelude.{◌≡◌, ℕ, zero, suc, ◌+◌, ◌-◌, ◌/◌, ◌%◌, ◌^◌, ◌<◌, ◌≤◌, Bool, cond, List, [], ◌∷◌, ◌++◌, ℤ, pos, negsuc}
use native.Mathlib.Nat.{pow-suc, pow-le-pow_right}
use native.Mathlib.Decide.{dec_le}
use native.Mathlib.Omega.{arith}
use mathlib.Core.Path.{sym, ap, ◌∙◌, subst}
use mir.Syntax.{w16, w32}
use mir.Val.{SFits, to_z, of_z}
use mir.Facts.{to_z-of_z}
use borrow.Author.Tests.{lt-ltb, le-ltb}
use Rattle.io.specs.Digits.{hex_digit_ascii, last_digits, IsDigitCount}
use Rattle.float32.specs.Casts.{low16bits}
use Rattle.records.proofs.Fields.{short_read}
use Rattle.listing.specs.Text.{digit, decimal_of, decimal, signed}

glyph_is : (n : ℕ) → hex_digit_ascii (n % 10) ≡ digit (n % 10)
glyph_is n = ap (λ (b : Bool). cond b (48 + n % 10) (87 + n % 10)) (lt-ltb (n % 10) 10 (omega arith))

-- the last digit is the only one
one_digit : (most n : ℕ) → n < 10 → last_digits 10 1 n ≡ decimal_of most n
unfolding decimal_of
one_digit zero n h = ap (λ (d : ℕ). d ∷ []) (glyph_is n)
one_digit (suc most) n h =
    let low : n % 10 ≡ n = omega arith in
    rw (lt-ltb n 10 h) (ap (λ (d : ℕ). d ∷ []) (glyph_is n ∙ ap digit low))

-- or there are others before it
last_digit : (most n : ℕ) → 10 ≤ n → decimal_of (suc most) n ≡ decimal_of most (n / 10) ++ (hex_digit_ascii (n % 10) ∷ [])
unfolding decimal_of
last_digit most n h = rw (le-ltb n 10 h) (ap (λ (d : ℕ). decimal_of most (n / 10) ++ (d ∷ [])) (sym (glyph_is n)))

fewest_digits : (most k n : ℕ) → k ≤ most + 1 → 1 ≤ k → n < 10 ^ k → (1 < k → 10 ^ (k - 1) ≤ n) → last_digits 10 k n ≡ decimal_of most n
fewest_digits most zero n m l u f = absurd (omega arith)
fewest_digits most (suc zero) n m l u f = one_digit most n u
fewest_digits zero (suc (suc j)) n m l u f = absurd (omega arith)
fewest_digits (suc most) (suc (suc j)) n m l u f =
    let less : suc (suc j) - 1 ≡ suc j = omega arith in
    let some : 10 ^ suc j ≤ n = subst (λ (i : ℕ). 10 ^ i ≤ n) less (f (omega arith)) in
    let before : j ≡ suc j - 1 = omega arith in
    let least : 1 ≤ 10 ^ j = pow-le-pow_right {n = 10} (omega arith) {i = 0} {j = j} (omega arith) in
    let big : 10 ^ j ≤ n / 10 = omega (arith, rw pow-suc at some) in
    let below : n / 10 < 10 ^ suc j = omega (arith, rw (pow-suc 10 (suc j)) at u) in
    let rest : last_digits 10 (suc j) (n / 10) ≡ decimal_of most (n / 10) =
    fewest_digits most (suc j) (n / 10) (omega arith) (omega arith) below (λ h. subst (λ (i : ℕ). 10 ^ i ≤ n / 10) before big) in
    ap (λ (l : List ℕ). l ++ (hex_digit_ascii (n % 10) ∷ [])) rest ∙ sym (last_digit most n (omega arith))

pub digits_are : (k n : ℕ) → k ≤ 20 → IsDigitCount 10 1 n k → last_digits 10 k n ≡ decimal n
unfolding decimal
digits_are k n m f = fewest_digits 19 k n m f.0 f.1 f.2

pub few_digits : (k n : ℕ) → n < 100000 → IsDigitCount 10 1 n k → k ≤ 5
few_digits k n h f = go (dec_le k 5)
  where
    go : Dec (k ≤ 5) → k ≤ 5
    go (yes p) = p
    go (no p) =
        let many : 10 ^ 5 ≤ 10 ^ (k - 1) = pow-le-pow_right {n = 10} (omega arith) {i = 5} {j = k - 1} (omega arith) in
        absurd (omega (arith, f.2 (omega arith)))

-- ---- signed numbers

pub bits_read : {v : ℤ} {b : ℕ} → SFits w16 v → b ≡ low16bits (to_z w32 (of_z w32 (to_z w16 (of_z w16 v)))) → b ≡ low16bits v
bits_read f e = e ∙ ap low16bits (to_z-of_z (short_read f) ∙ to_z-of_z f)

pub not_below : (v : ℤ) (b : ℕ) → SFits w16 v → b ≡ low16bits v → b < 32768 → decimal b ≡ signed v
not_below (pos n) b f e h = ap decimal (omega (arith, f.sfits))
not_below (negsuc n) b f e h = absurd (omega (arith, f.sfits))

pub below_zero : (v : ℤ) (b : ℕ) → SFits w16 v → b ≡ low16bits v → 32768 ≤ b → 45 ∷ decimal (65536 - b) ≡ signed v
below_zero (pos n) b f e h = absurd (omega (arith, f.sfits))
below_zero (negsuc n) b f e h = ap (λ (k : ℕ). 45 ∷ decimal k) (omega (arith, f.sfits))

pub bits_few : {b : ℕ} (v : ℤ) → b ≡ low16bits v → b ≤ 65536
bits_few (pos n) e = omega arith
bits_few (negsuc n) e = omega arith
