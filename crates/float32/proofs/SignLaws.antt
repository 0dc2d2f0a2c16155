-- |x| by the code's tests: x below zero, x equal to zero, and else; and |x| ≤ m is -m ≤ x ≤ m. Assumes nothing.
use mathlib.Core.Path.{◌≡◌, refl, sym, ap, ◌∙◌, subst}
use mathlib.Core.Logic.{◌⊎◌, inl, inr}
use mathlib.Core.Bool.{true, false, not}
use Prim.Native.Nat.{ℕ, zero, suc, ◌+◌, ◌*◌, ◌^◌, ◌≤◌, ◌<◌}
use native.Mathlib.Nat.{zero-mul, mul-one, one-mul, pow-suc}
use native.Mathlib.Omega.{arith}
use borrow.Author.Tests.{ltb-true, ltb-false}
use lib.Dec.{T, eqb, eqb→eq}
use lib.IntN.{ℤ, pos, negsuc}
use lib.Ieee.{Float, nan, inf, fin, up, down, binary32, neg, lt, le, eq, is_nan, fits}
use lib.Ieee.Fits.{up_pos, and_l, and_i, eq→eqb}
use Rattle.base.proofs.NumberLaws.{no_factor}
use Rattle.float32.specs.Signs.{abs_of}
use Rattle.float32.proofs.Order.{cross→le}
use Rattle.float32.proofs.OrderLaws.{le_refl, le_trans, le_no_nan, neg_neg, neg_no_nan, neg_le}

pub below_zero : (x : Float) → lt x (fin false 0 (pos 0)) ≡ true → neg x ≡ abs_of x
unfolding lt neg abs_of
below_zero nan h = refl
below_zero (inf true) h = refl
below_zero (inf false) h = absurd (subst T (sym h) tt)
below_zero (fin true m e) h = refl
below_zero (fin false m e) h = absurd (none (m * up e * 1) (down e) (ltb-true (m * up e * 1) (0 * down e) h))
  where
    none : (a d : ℕ) → a < 0 * d → ⊥
    none a d k = omega arith

-- A zero that fits has exponent 0.
no_power : (k : ℕ) → 2 ^ suc k ≡ 1 → ⊥
no_power k h = even (2 ^ k) (sym (pow-suc 2 k) ∙ h)
  where
    even : (a : ℕ) → a * 2 ≡ 1 → ⊥
    even a q = omega arith

plain : (e : ℤ) → up e * down e ≡ 1 → e ≡ pos 0
plain (pos zero) h = refl
plain (pos (suc k)) h = absurd (no_power k (sym (mul-one (2 ^ suc k)) ∙ h))
plain (negsuc k) h = absurd (no_power k (sym (one-mul (2 ^ suc k)) ∙ h))

zero_digits : (m : ℕ) (e : ℤ) → m * up e * 1 ≡ 0 → m ≡ 0
zero_digits m e h = no_factor m (up e) (up_pos e) (sym (mul-one (m * up e)) ∙ h)

pub at_zero : (x : Float) → T (fits binary32 x) → eq x (fin false 0 (pos 0)) ≡ true → fin false 0 (pos 0) ≡ abs_of x
unfolding eq abs_of fits
at_zero nan f h = absurd (subst T (sym h) tt)
at_zero (inf s) f h = absurd (subst T (sym h) tt)
at_zero (fin s zero e) f h = ap (fin false 0) (sym (plain e (eqb→eq (up e * down e) 1 f)))
at_zero (fin s (suc m) e) f h =
    absurd
    (never m (zero_digits (suc m) e (eqb→eq (suc m * up e * 1) (0 * down e) (and_l (eqb (suc m * up e * 1) (0 * down e)) _ (subst T (sym h) tt))
    ∙ zero-mul (down e))))
  where
    never : (m : ℕ) → suc m ≡ 0 → ⊥
    never m q = omega arith

pub else_clear : (x : Float) → lt x (fin false 0 (pos 0)) ≡ false → eq x (fin false 0 (pos 0)) ≡ false → x ≡ abs_of x
unfolding lt eq abs_of
else_clear nan l h = refl
else_clear (inf true) l h = absurd (subst T l tt)
else_clear (inf false) l h = refl
else_clear (fin false m e) l h = refl
else_clear (fin true m e) l h =
    let a = m * up e * 1 in
    let b = 0 * down e in
    let k = ltb-false 0 (a + b) l in
    absurd (subst T h (and_i (eqb a b) (eqb a 0) (eq→eqb (same a b k)) (eq→eqb (nought a b k))))
  where
    same : (a b : ℕ) → a + b ≤ 0 → a ≡ b
    same a b k = omega arith

    nought : (a b : ℕ) → a + b ≤ 0 → a ≡ 0
    nought a b k = omega arith

-- ---- the size and the order
abs_either : (x : Float) → (abs_of x ≡ x) ⊎ (abs_of x ≡ neg x)
unfolding abs_of neg
abs_either nan = inl refl
abs_either (inf true) = inr refl
abs_either (inf false) = inl refl
abs_either (fin true m e) = inr refl
abs_either (fin false m e) = inl refl

pub abs_neg : (x : Float) → abs_of (neg x) ≡ abs_of x
unfolding abs_of neg
abs_neg nan = refl
abs_neg (inf s) = refl
abs_neg (fin s m e) = refl

pub abs_no_nan : (x : Float) → T (not (is_nan x)) → T (not (is_nan (abs_of x)))
unfolding abs_of is_nan
abs_no_nan nan p = p
abs_no_nan (inf s) p = p
abs_no_nan (fin s m e) p = p

pub le_abs : (x : Float) → T (not (is_nan x)) → T (le x (abs_of x))
unfolding abs_of
le_abs nan p = absurd (unfold is_nan in p)
le_abs (inf true) p = unfold le in tt
le_abs (inf false) p = le_refl (inf false) p
le_abs (fin true m e) p = cross→le (fin true m e) (fin false m e) tt tt (omega arith)
le_abs (fin false m e) p = le_refl (fin false m e) p

pub neg_abs_le : (x : Float) → T (not (is_nan x)) → T (le (neg (abs_of x)) x)
neg_abs_le x p = rw (neg_neg x, abs_neg x) at (neg_le (neg x) (abs_of (neg x)) (le_abs (neg x) (neg_no_nan x p)))

pub abs_ge_zero : (x : Float) → T (not (is_nan x)) → T (le (fin false 0 (pos 0)) (abs_of x))
unfolding abs_of
abs_ge_zero nan p = absurd (unfold is_nan in p)
abs_ge_zero (inf s) p = unfold le in tt
abs_ge_zero (fin s m e) p = cross→le (fin false 0 (pos 0)) (fin false m e) tt tt (omega arith)

pub abs_number : (x : Float) → T (not (is_nan (abs_of x))) → T (not (is_nan x))
unfolding abs_of is_nan
abs_number nan p = p
abs_number (inf s) p = p
abs_number (fin s m e) p = p

pub abs_bounds : (x m : Float) → T (le (abs_of x) m) → T (le (neg m) x) × T (le x m)
abs_bounds x m h =
    let p = abs_number x (le_no_nan (abs_of x) m h).0 in
    (le_trans (neg m) (neg (abs_of x)) x (neg_le (abs_of x) m h) (neg_abs_le x p), le_trans x (abs_of x) m (le_abs x p) h)

pub abs_le : (x m : Float) → T (le (neg m) x) → T (le x m) → T (le (abs_of x) m)
abs_le x m h k =
    elim (abs_either x) [
      | inl e ↦ subst (λ (z : Float). T (le z m)) (sym e) k
      | inr e ↦ subst (λ (z : Float). T (le z m)) (sym e) (rw (neg_neg m) at (neg_le (neg m) x h))
    ]
