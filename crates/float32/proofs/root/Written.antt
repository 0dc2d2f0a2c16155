-- A number of q * 2 ^ k smallest values, with a q of the format's digits, is a value of the format, and its pattern is k * hid + q: by the digits that
-- q * 2 ^ k has.
use mathlib.Core.Path.{◌≡◌, refl, sym, ap, ◌∙◌, subst}
use mathlib.Core.Logic.{◌⊎◌, inl, inr}
use mathlib.Core.Bool.{Bool, false, cond}
use Prim.Native.Nat.{ℕ, suc, ◌+◌, ◌-◌, ◌*◌, ◌/◌, ◌%◌, ◌^◌, ◌≤◌, ◌<◌}
use native.Mathlib.Nat.{le_trans, le_of_eq, le_of_lt, lt_of_lt_of_le, lt_of_le_of_lt, lt_of_not-le}
use native.Mathlib.Nat.{not-le_of_lt, mul-le-mul_right, mul-div_cancel, le_refl, eq-or-lt_of_le}
use native.Mathlib.Omega.{arith}
use lib.Dec.{T, lit≤, lit<}
use lib.Pow.{pow-add, pow_pos, pow_mono, pow-lt, shl_lt}
use lib.Ieee.{Float, inf, Format, binary32, binary64, prec, emax, low, hid, size, odd, units, fits, to_bits, of_bits}
use lib.Ieee.Digits.{size-lt, size-le}
use lib.Ieee.Fits.{odd-fits}
use lib.Ieee.Exact.{HasValue, units_val}
use lib.Ieee.Bits.{of_bits-to_bits}
use borrow.Author.Tests.{lt-ltb}
use Rattle.float32.proofs.Exactness.{pattern, to_bits_value_lem, fits_unique}

-- q has a leading digit in the place of hid, unless nothing is dropped.
abbrev pub Leads : Format → ℕ → ℕ → Type 0
Leads f q k = (k ≡ 0) ⊎ (hid f ≤ q)

pub prec_pos : (f : Format) → 0 < prec f
prec_pos binary32 = lit≤ tt
prec_pos binary64 = lit≤ tt

pub size_gt : (n j : ℕ) → 2 ^ j ≤ n → j < size n
size_gt n j h = lt_of_not-le (λ (g : size n ≤ j). not-le_of_lt (lt_of_lt_of_le (size-lt n) (pow_mono g)) h)

-- `size - prec` digits are dropped, and those are k.
dropped : (f : Format) (q k : ℕ) → q < 2 ^ prec f → Leads f q k → size (q * 2 ^ k) - prec f ≡ k
dropped f q k hi l = go l (size-le (q * 2 ^ k) (prec f + k) (shl_lt (prec f) k hi))
  where
    at_least : (z p : ℕ) → 0 < p → p - 1 + k < z → z ≤ p + k → z - p ≡ k
    at_least z p P a b = omega arith

    go : Leads f q k → size (q * 2 ^ k) ≤ prec f + k → size (q * 2 ^ k) - prec f ≡ k
    go (inl e) s = omega arith
    go (inr h) s =
        at_least (size (q * 2 ^ k)) (prec f) (prec_pos f)
        (size_gt (q * 2 ^ k) (prec f - 1 + k) (le_trans (le_of_eq (pow-add 2 (prec f - 1) k)) (mul-le-mul_right (2 ^ k) h)))
        s

-- ---- the pattern is told by the number, a smallest values, and its sign
pattern_of : (f : Format) (s : Bool) (v : Float) (a : ℕ) → HasValue v s a (2 ^ low f) → to_bits f v ≡ pattern f s a
pattern_of f s v a h = to_bits_value_lem f v s a (2 ^ low f) (pow_pos (low f)) h ∙ ap (pattern f s) (mul-div_cancel a (pow_pos (low f)))

-- So a value is told by its number and sign.
pub same_value : (f : Format) (s : Bool) (v w : Float) (a : ℕ) → T (fits f v) → T (fits f w) → HasValue v s a (2 ^ low f) → HasValue w s a (2 ^ low f)
    → v ≡ w
same_value f s v w a v-fits w_Fits h k = fits_unique f v w s a (2 ^ low f) (pow_pos (low f)) v-fits w_Fits h k

pub written : (f : Format) (v : Float) (q k : ℕ) → q < 2 ^ prec f → Leads f q k → HasValue v false (q * 2 ^ k) (2 ^ low f) → to_bits f v ≡ k * hid f + q
written f v q k hi l h =
    pattern_of f false v (q * 2 ^ k) h
    ∙ ap (λ (k' : ℕ). 0 + k' * hid f + q * 2 ^ k / 2 ^ k') (dropped f q k hi l)
    ∙ ap (λ (x : ℕ). 0 + k * hid f + x) (mul-div_cancel q (pow_pos k))
    ∙ none (k * hid f)
  where
    none : (x : ℕ) → 0 + x + q ≡ x + q
    none x = omega arith

pub units_fits : (f : Format) (q k : ℕ) → q ≤ 2 ^ prec f → q * 2 ^ k < 2 ^ (low f + suc (emax f)) → T (fits f (units f false q k))
unfolding units
units_fits f q k hi fine =
    subst (λ (b : Bool). T (fits f (cond b (odd (suc (prec f)) false q k (low f)) (inf false)))) (sym (lt-ltb (q * 2 ^ k) (2 ^ (low f + suc (emax f))) fine))
    (odd-fits f (suc (prec f)) false q k (lt_of_le_of_lt hi (pow-lt (le_refl (suc (prec f))))) hi fine)

pub units_pattern : (f : Format) (q k : ℕ) → q < 2 ^ prec f → Leads f q k → q * 2 ^ k < 2 ^ (low f + suc (emax f))
    → of_bits f (k * hid f + q) ≡ units f false q k
units_pattern f q k hi l fine =
    let v = units f false q k in
    ap (of_bits f) (sym (written f v q k hi l (units_val f false q k fine))) ∙ of_bits-to_bits f v (units_fits f q k (le_of_lt hi) fine)

-- ---- the last digit of the pattern is that of q
even_sum : (f : Format) (k q : ℕ) → q % 2 ≡ 0 → (k * hid f + q) % 2 ≡ 0
even_sum binary32 k q e = omega arith
even_sum binary64 k q e = omega arith

-- a q that the rounding took to one digit more
carried : (f : Format) (k : ℕ) → 2 ^ prec f * 2 ^ k ≡ hid f * 2 ^ suc k
carried binary32 k = omega arith
carried binary64 k = omega arith

hid_lt : (f : Format) → hid f < 2 ^ prec f
hid_lt binary32 = lit< tt
hid_lt binary64 = lit< tt

hid_even : (f : Format) → hid f % 2 ≡ 0
hid_even binary32 = refl
hid_even binary64 = refl

pub even_pattern : (f : Format) (v : Float) (q k : ℕ) → q ≤ 2 ^ prec f → Leads f q k → HasValue v false (q * 2 ^ k) (2 ^ low f) → q % 2 ≡ 0 → to_bits f v % 2 ≡ 0
even_pattern f v q k hi l h e = elim (eq-or-lt_of_le hi) [
  | inl z ↦
      ap (λ (b : ℕ). b % 2) (written f v (hid f) (suc k) (hid_lt f) (inr (le_refl (hid f)))
      (subst (λ (a : ℕ). HasValue v false a (2 ^ low f)) (ap (λ (q : ℕ). q * 2 ^ k) z ∙ carried f k) h))
      ∙ even_sum f (suc k) (hid f) (hid_even f)
  | inr g ↦ ap (λ (b : ℕ). b % 2) (written f v q k g l h) ∙ even_sum f k q e
]
