-- Where `round` gives an infinity: from 2 ^ emax * (2 - 2 ^ -prec) on, as it does there and keeps the order; and not below, as there the
-- largest number is nearer than 2 ^ (emax + 1) is.
use mathlib.Core.Path.{◌≡◌, refl, ap, ◌∙◌, subst}
use mathlib.Core.Bool.{Bool, true, false}
use Prim.Native.Nat.{ℕ, suc, ◌+◌, ◌-◌, ◌*◌, ◌^◌, ◌≤◌, ◌<◌}
use native.Mathlib.Nat.{lt_of_not-le, mul-le-mul_right, mul-lt-mul_of_pos_right}
use native.Mathlib.Omega.{arith}
use lib.Dec.{T, lit<}
use lib.Pow.{pow_pos}
use lib.Ieee.{Float, nan, inf, fin, Format, binary32, binary64, prec, emax, low, neg, round, le}
use lib.Ieee.Order.{round_mono}
use Rattle.float32.specs.Signed.{apart}
use Rattle.float_laws.specs.RoundStandard.{too_large}
use Rattle.float32.proofs.Rounding.{round_neg}
use Rattle.float_laws.proofs.Standard.Distances.{near}
use Rattle.float_laws.proofs.Standard.Kept.{in_units, Kept, outside}

-- ---- from the bound on: an infinity
at_bound : (f : Format) → round f false (too_large f) (2 ^ prec f) ≡ inf false
unfolding round
at_bound binary32 = refl
at_bound binary64 = refl

no_more : (v : Float) → T (le (inf false) v) → v ≡ inf false
unfolding le
no_more nan h = absurd h
no_more (inf true) h = absurd h
no_more (inf false) h = refl
no_more (fin s m e) h = absurd h

above_bound : (f : Format) (a c : ℕ) → 0 < c → too_large f * c ≤ a * 2 ^ prec f → round f false a c ≡ inf false
above_bound f a c C h =
    no_more (round f false a c) (subst (λ (v : Float). T (le v (round f false a c))) (at_bound f)
    (round_mono f (too_large f) (2 ^ prec f) a c (pow_pos (prec f)) C h))

pub overflows : (f : Format) (s : Bool) (a c : ℕ) → 0 < c → too_large f * c ≤ a * 2 ^ prec f → round f s a c ≡ inf s
unfolding neg
overflows f false a c C h = above_bound f a c C h
overflows f true a c C h = round_neg f a c ∙ ap neg (above_bound f a c C h)

-- ---- below it: a number
-- the largest number, in smallest values, is most f * 2 ^ high f
abbrev most : Format → ℕ
most f = 2 ^ prec f - 1

abbrev high : Format → ℕ
high f = low f + suc (emax f) - prec f

most_lt : (f : Format) → most f < 2 ^ prec f
most_lt binary32 = lit< tt
most_lt binary64 = lit< tt

largest_lt : (f : Format) → most f * 2 ^ high f < 2 ^ (low f + suc (emax f))
largest_lt binary32 = lit< tt
largest_lt binary64 = lit< tt

-- the bound is the mean of the largest number and of what would be the next
bound_is : (f : Format) → too_large f * 2 ^ (emax f - 1) ≡ most f * 2 ^ high f + 2 ^ (low f + suc (emax f))
bound_is binary32 = refl
bound_is binary64 = refl

unit_is : (f : Format) → 2 ^ prec f * 2 ^ (emax f - 1) ≡ 2 * 2 ^ low f
unit_is binary32 = refl
unit_is binary64 = refl

below_mean : (f : Format) (a c : ℕ) → a * 2 ^ prec f < too_large f * c → 2 * in_units f a < most f * 2 ^ high f * c + 2 ^ (low f + suc (emax f)) * c
below_mean f a c h =
    plain (2 ^ prec f) (too_large f) (2 ^ (emax f - 1)) (2 ^ low f) (most f * 2 ^ high f) (2 ^ (low f + suc (emax f))) (unit_is f)
    (bound_is f) (mul-lt-mul_of_pos_right h (pow_pos (emax f - 1)))
  where
    plain : (p t w l m b : ℕ) → p * w ≡ 2 * l → t * w ≡ m + b → a * p * w < t * c * w → 2 * (a * l) < m * c + b * c
    plain p t w l m b e e' h = omega (arith, ap (λ (z : ℕ). a * z) e, ap (λ (z : ℕ). z * c) e')

pub in_range : (f : Format) (a c : ℕ) → 0 < c → (i : Kept f a c) → a * 2 ^ prec f < too_large f * c → i.Q * 2 ^ i.k < 2 ^ (low f + suc (emax f))
in_range f a c C i h =
    lt_of_not-le (λ (g : 2 ^ (low f + suc (emax f)) ≤ i.Q * 2 ^ i.k).
    no (in_units f a) (most f * 2 ^ high f * c) (2 ^ (low f + suc (emax f)) * c) (i.Q * 2 ^ i.k * c)
    (mul-lt-mul_of_pos_right (largest_lt f) C) (below_mean f a c h) (mul-le-mul_right c g)
    (near i.between (most f * 2 ^ high f * c) (outside f a c i (most f) (high f) (most_lt f))))
  where
    no : (n m b r : ℕ) → m < b → 2 * n < m + b → b ≤ r → apart n r ≤ apart n m → ⊥
    no n m b r h k l i = omega arith
