-- The number that the fields of a bit pattern stand for, counted in the format's smallest value, and that it grows with the fields. Assumes nothing.
use mathlib.Core.Path.{◌≡◌, sym, ap, ◌∙◌}
use mathlib.Core.Bool.{Bool}
use Prim.Native.Nat.{ℕ, zero, suc, ◌+◌, ◌*◌, ◌^◌, ◌<◌}
use native.Mathlib.Nat.{le_of_eq, le-add_right, le_of_suc-le-suc, lt_of_lt_of_le, mul-one, mul_assoc, mul-le-mul, mul-lt-mul_of_pos_right, pow-succ'}
use native.Mathlib.Omega.{arith}
use lib.Pow.{pow_pos, pow_mono}
use lib.Ieee.{Format, prec, low, hid, ones, of_fields}
use lib.Ieee.Exact.{HasValue, odd_sign}
use borrow.Author.Tests.{ne_eqb}

-- An exponent's field x and digits t, below an infinity's. A field of 0 has no leading digit.
abbrev pub amount : Format → ℕ → ℕ → ℕ
amount f zero t = t
amount f (suc x) t = (hid f + t) * 2 ^ x

pub fields_value : (f : Format) (s : Bool) (x t : ℕ) → x < ones f → HasValue (of_fields f s x t) s (amount f x t) (2 ^ low f)
unfolding of_fields
fields_value f s zero t h = rw mul-one at (odd_sign (prec f) s t 0 (low f))
fields_value f s (suc x) t h = rw (ne_eqb (suc x) (ones f) (less x (ones f) h)) (odd_sign (prec f) s (hid f + t) x (low f))
  where
    less : (x n : ℕ) → suc x < n → suc x ≡ n → ⊥
    less x n h e = omega arith

-- the next field starts at twice the digits' weight, which the digits do not reach
amount_top : (f : Format) (x t : ℕ) → t < hid f → amount f x t < hid f * 2 ^ x
amount_top f zero t h = rw mul-one h
amount_top f (suc x) t h =
    lt_of_lt_of_le (mul-lt-mul_of_pos_right (twice (hid f) t h) (pow_pos x))
    (le_of_eq (mul_assoc (hid f) 2 (2 ^ x) ∙ ap (λ (z : ℕ). hid f * z) (sym (pow-succ' 2 x))))
  where
    twice : (a t : ℕ) → t < a → a + t < a * 2
    twice a t h = omega arith

pub field_grows : (f : Format) (x t x' t' : ℕ) → t < hid f → x < x' → amount f x t < amount f x' t'
field_grows f x t zero t' h k = absurd (omega arith)
field_grows f x t (suc y) t' h k = lt_of_lt_of_le (amount_top f x t h) (mul-le-mul (le-add_right (hid f) t') (pow_mono (le_of_suc-le-suc k)))

pub digits_grow : (f : Format) (x t t' : ℕ) → t < t' → amount f x t < amount f x t'
digits_grow f zero t t' h = h
digits_grow f (suc x) t t' h = mul-lt-mul_of_pos_right (omega arith) (pow_pos x)
