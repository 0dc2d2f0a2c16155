-- The kit's operations are the standard's, in either format: on finite operands each gives its exact result, rounded (`TiesToEven`), and the rest is a table.
use mathlib.Core.Path.{◌≡◌, refl, sym, subst}
use mathlib.Core.Logic.{inl, inr}
use mathlib.Core.Bool.{Bool, true, false}
use Prim.Native.Nat.{ℕ, suc, ◌*◌, ◌<◌}
use native.Mathlib.Nat.{mul-pos, eq-zero-or-pos, zero-lt-suc}
use native.Mathlib.Omega.{arith}
use lib.Dec.{T, eqb, lt→ltb}
use lib.IntN.{ℤ}
use lib.Ieee.{Float, nan, inf, fin, Format, up, down, unlike, add, sub, mul, div, of_int}
use lib.Ieee.Fits.{up_pos, down_pos}
use lib.Ieee.Positive.{num, den, den_pos, first_pos}
use lib.Ieee.Scale.{finite}
use borrow.Author.Tests.{eq-eqb}
use Rattle.float32.specs.Signed.{negative, apart}
use Rattle.float_laws.specs.RoundStandard.{TiesToEven}
use Rattle.float32.specs.Signed.{sign_of}
use Rattle.float_laws.specs.ArithmeticStandard.{RoundedDifference, Addition, Subtraction, Multiplication, Division, FromInteger}
use Rattle.float32.proofs.Rounding.{difference, add_is, sub_is, positive_not_zero}
use Rattle.float_laws.proofs.Standard.TiesToEven.{ties_to_even}

-- ---- x + y and x - y
difference_is : (f : Format) (z : Bool) (p q c : ℕ) → 0 < c → (r : Float) → r ≡ difference f z p q c → RoundedDifference f z p q c r
difference_is f z p q c C r e = subst (TiesToEven f (sign_of z p q) (apart p q) c) (sym e) (ties_to_even f (sign_of z p q) (apart p q) c C)

pub addition : (f : Format) → Addition f (add f)
unfolding add
addition f =
    record {
      nan_left = λ y. refl;
      nan_right = elim [ nan ↦ refl | inf s ↦ refl | fin s m e ↦ refl ];
      infinities = elim [ true ↦ refl | false ↦ refl ];
      opposites = elim [ true ↦ refl | false ↦ refl ];
      infinity_left = λ s. elim [ nan ↦ λ h. absurd h | inf t ↦ λ h. absurd h | fin t n d ↦ λ h. refl ];
      infinity_right = elim [ nan ↦ λ t h. absurd h | inf s ↦ λ t h. absurd h | fin s m e ↦ λ t h. refl ];
      numbers = λ x y p q. difference_is f _ _ _ _ (mul-pos (den_pos x) (den_pos y)) (add f x y) (add_is f x y p q);
    }

pub subtraction : (f : Format) → Subtraction f (sub f)
unfolding sub
subtraction f =
    record {
      nan_left = λ y. refl;
      nan_right = elim [ nan ↦ refl | inf s ↦ refl | fin s m e ↦ refl ];
      infinities = elim [ true ↦ refl | false ↦ refl ];
      opposites = elim [ true ↦ refl | false ↦ refl ];
      infinity_left = λ s. elim [ nan ↦ λ h. absurd h | inf t ↦ λ h. absurd h | fin t n d ↦ λ h. refl ];
      infinity_right = elim [ nan ↦ λ t h. absurd h | inf s ↦ λ t h. absurd h | fin s m e ↦ λ t h. refl ];
      numbers = λ x y p q. difference_is f _ _ _ _ (mul-pos (den_pos x) (den_pos y)) (sub f x y) (sub_is f x y p q);
    }

-- ---- is m * 2 ^ e zero?
no_zero : (m : ℕ) (e : ℤ) → 0 < m * up e → eqb m 0 ≡ false
no_zero m e h = positive_not_zero m (lt→ltb 0 m (first_pos m (up e) h))

a_zero : (m : ℕ) (e : ℤ) → m * up e ≡ 0 → eqb m 0 ≡ true
a_zero m e h = eq-eqb m 0 (elim (eq-zero-or-pos m) [ inl z ↦ z | inr l ↦ absurd (omega (arith, mul-pos l (up_pos e))) ])

-- ---- x * y
mul_numbers : (f : Format) (x y : Float) → T (finite x) → T (finite y)
    → TiesToEven f (unlike (negative x) (negative y)) (num x * num y) (den x * den y) (mul f x y)
unfolding mul
mul_numbers f nan y h k = absurd h
mul_numbers f (inf s) y h k = absurd h
mul_numbers f (fin s m e) nan h k = absurd k
mul_numbers f (fin s m e) (inf t) h k = absurd k
mul_numbers f (fin s m e) (fin t n d) h k = ties_to_even f (unlike s t) (m * up e * (n * up d)) (down e * down d) (mul-pos (down_pos e) (down_pos d))

pub multiplication : (f : Format) → Multiplication f (mul f)
unfolding mul
multiplication f =
    record {
      nan_left = λ y. refl;
      nan_right = elim [ nan ↦ refl | inf s ↦ refl | fin s m e ↦ refl ];
      infinities = λ s t. refl;
      infinity_left = λ s. elim [ nan ↦ λ h. absurd h | inf t ↦ λ h. absurd h | fin t n d ↦ λ h p. rw (no_zero n d p) ];
      infinity_right = elim [ nan ↦ λ t h. absurd h | inf s ↦ λ t h. absurd h | fin s m e ↦ λ t h p. rw (no_zero m e p) ];
      infinity_by_zero = λ s. elim [ nan ↦ λ h. absurd h | inf t ↦ λ h. absurd h | fin t n d ↦ λ h z. rw (a_zero n d z) ];
      zero_by_infinity = elim [ nan ↦ λ t h. absurd h | inf s ↦ λ t h. absurd h | fin s m e ↦ λ t h z. rw (a_zero m e z) ];
      numbers = mul_numbers f;
    }

-- ---- x / y
div_numbers : (f : Format) (x y : Float) → T (finite x) → T (finite y) → 0 < num y
    → TiesToEven f (unlike (negative x) (negative y)) (num x * den y) (num y * den x) (div f x y)
unfolding div
div_numbers f nan y h k p = absurd h
div_numbers f (inf s) y h k p = absurd h
div_numbers f (fin s m e) nan h k p = absurd k
div_numbers f (fin s m e) (inf t) h k p = absurd k
div_numbers f (fin s m e) (fin t n d) h k p = rw (no_zero n d p) (ties_to_even f (unlike s t) (m * up e * down d) (n * up d * down e) (mul-pos p (down_pos e)))

zero_by_zero : (f : Format) (x y : Float) → T (finite x) → T (finite y) → num x ≡ 0 → num y ≡ 0 → div f x y ≡ nan
unfolding div
zero_by_zero f nan y h k z w = absurd h
zero_by_zero f (inf s) y h k z w = absurd h
zero_by_zero f (fin s m e) nan h k z w = absurd k
zero_by_zero f (fin s m e) (inf t) h k z w = absurd k
zero_by_zero f (fin s m e) (fin t n d) h k z w = rw (a_zero n d w, a_zero m e z)

by_zero : (f : Format) (x y : Float) → T (finite x) → T (finite y) → 0 < num x → num y ≡ 0 → div f x y ≡ inf (unlike (negative x) (negative y))
unfolding div
by_zero f nan y h k p w = absurd h
by_zero f (inf s) y h k p w = absurd h
by_zero f (fin s m e) nan h k p w = absurd k
by_zero f (fin s m e) (inf t) h k p w = absurd k
by_zero f (fin s m e) (fin t n d) h k p w = rw (a_zero n d w, no_zero m e p)

pub division : (f : Format) → Division f (div f)
unfolding div
division f =
    record {
      nan_left = λ y. refl;
      nan_right = elim [ nan ↦ refl | inf s ↦ refl | fin s m e ↦ refl ];
      infinities = λ s t. refl;
      infinity_left = λ s. elim [ nan ↦ λ h. absurd h | inf t ↦ λ h. absurd h | fin t n d ↦ λ h. refl ];
      infinity_right = elim [ nan ↦ λ t h. absurd h | inf s ↦ λ t h. absurd h | fin s m e ↦ λ t h. refl ];
      zero_by_zero = zero_by_zero f;
      by_zero = by_zero f;
      numbers = div_numbers f;
    }

-- ---- an integer to a float
pub from_integer : (f : Format) → FromInteger f (of_int f)
unfolding of_int
from_integer f = record { at_least_zero = λ n. ties_to_even f false n 1 (zero-lt-suc 0); below_zero = λ n. ties_to_even f true (suc n) 1 (zero-lt-suc 0) }
