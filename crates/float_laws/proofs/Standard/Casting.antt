-- `to_signed` is the Rust Reference's cast, for any width, and no other function is: the table has a line for every value, by the whole part of its size.
use mathlib.Core.Path.{◌≡◌, sym, ap, ◌∙◌}
use mathlib.Core.Bool.{true, false}
use Prim.Native.Nat.{ℕ, ◌*◌, ◌/◌, ◌^◌, ◌≤◌, ◌<◌}
use native.Mathlib.Nat.{div-mul-le_self, div-lt_iff_lt-mul, lt-suc_self, lt_of_not-le, eq-or-lt_of_le, le_trans, le_of_eq}
use native.Mathlib.Decide.{dec_le}
use native.Mathlib.Numerals.{add-one}
use native.Mathlib.Omega.{arith}
use mathlib.Core.Logic.{inl, inr}
use lib.IntN.{ℤ, pos, neg_ℤ}
use lib.Ieee.{Float, nan, inf, fin, up, down, to_signed}
use lib.Ieee.Fits.{down_pos}
use Rattle.float32.specs.Casts.{cast_i32}
use Rattle.float_laws.specs.CastStandard.{WholePart, Cast}
use Rattle.float32.proofs.CastLaws.{to_signed_nan_lem, to_signed_inf_lem, to_signed_whole_lem, to_signed_past_lem}

-- Below zero the last whole part of the range is 2 ^ h, the end itself.
below_zero : (h m : ℕ) (e : ℤ) (q : ℕ) → WholePart q m e → q ≤ 2 ^ h → to_signed h (fin true m e) ≡ neg_ℤ (pos q)
below_zero h m e q w l = elim (eq-or-lt_of_le l) [
  | inl z ↦ to_signed_past_lem h true m e (le_trans (le_of_eq (ap (λ (x : ℕ). x * down e) (sym z))) w.reached) ∙ ap (λ (x : ℕ). neg_ℤ (pos x)) (sym z)
  | inr k ↦ to_signed_whole_lem h true m e q w.reached w.not_passed k
]

pub cast_is : (h : ℕ) → Cast h (to_signed h)
cast_is h =
    record {
      of_nan = to_signed_nan_lem h;
      of_infinity = to_signed_inf_lem h false;
      of_minus_infinity = to_signed_inf_lem h true;
      above_zero = λ m e q w l. to_signed_whole_lem h false m e q w.reached w.not_passed l;
      below_zero = below_zero h;
      past_highest = to_signed_past_lem h false;
      past_lowest = to_signed_past_lem h true;
    }

-- ---- every size has a whole part
whole_part : (m : ℕ) (e : ℤ) → WholePart (m * up e / down e) m e
whole_part m e =
    record {
      reached = div-mul-le_self (m * up e) (down e);
      not_passed = rw add-one
          ((div-lt_iff_lt-mul (down_pos e)).0 (lt-suc_self (m * up e / down e)));
    }

whole_lt : (h m : ℕ) (e : ℤ) → (2 ^ h * down e ≤ m * up e → ⊥) → m * up e / down e < 2 ^ h
whole_lt h m e n = (div-lt_iff_lt-mul (down_pos e)).1 (lt_of_not-le n)

pub cast_only : (h : ℕ) (g : Float → ℤ) → Cast h g → (x : Float) → g x ≡ to_signed h x
cast_only h g i nan = i.of_nan ∙ sym (cast_is h).of_nan
cast_only h g i (inf true) = i.of_minus_infinity ∙ sym (cast_is h).of_minus_infinity
cast_only h g i (inf false) = i.of_infinity ∙ sym (cast_is h).of_infinity
cast_only h g i (fin true m e) = elim (dec_le (2 ^ h * down e) (m * up e)) [
  | yes p ↦ i.past_lowest m e p ∙ sym ((cast_is h).past_lowest m e p)
  | no n ↦ let q =
      m * up e / down e in let l : q ≤ 2 ^ h = omega (arith, whole_lt h m e n) in i.below_zero m e q (whole_part m e) l ∙ sym
      ((cast_is h).below_zero m e q (whole_part m e) l)
]
cast_only h g i (fin false m e) = elim (dec_le (2 ^ h * down e) (m * up e)) [
  | yes p ↦ i.past_highest m e p ∙ sym ((cast_is h).past_highest m e p)
  | no n ↦ let q =
      m * up e / down e in let l = whole_lt h m e n in i.above_zero m e q (whole_part m e) l ∙ sym ((cast_is h).above_zero m e q (whole_part m e) l)
]

-- Rule F6
pub cast_i32_is_lem : Cast 31 cast_i32
cast_i32_is_lem = cast_is 31
