-- The sign of a rounded difference is that of the exact one: two values that differ do so by a whole number of the format's smallest units, so no
-- difference is lost. And x * 1 is x, x * -1 is -x.
use mathlib.Core.Path.{◌≡◌, refl, sym, ap}
use mathlib.Core.Bool.{Bool, true, false, not}
use Prim.Native.Nat.{ℕ, zero, suc, ◌+◌, ◌-◌, ◌*◌, ◌^◌, ◌≤◌, ◌<◌}
use native.Mathlib.Nat.{mul_comm, mul-sub, mul-pos, mul-one, mul-lt-mul_of_pos_right, mul-le-mul_right, lt_of_mul-lt-mul_right}
use native.Mathlib.Omega.{arith}
use lib.Dec.{T}
use lib.IntN.{ℤ, pos}
use lib.Pow.{pow_pos}
use lib.Ieee.{Float, nan, inf, fin, Format, binary32, binary64, low, up, down, unlike, round, neg, sub, mul, lt, le, fits}
use lib.Ieee.Order.{round_mono}
use lib.Ieee.Scale.{finite}
use lib.Ieee.Positive.{den, den_pos}
use Rattle.float32.specs.Signed.{over, under}
use Rattle.float32.proofs.Order.{Strict, lt→strict, le→cross}
use Rattle.float32.proofs.OrderLaws.{lt_le_trans, neg_lt}
use Rattle.float32.proofs.Rounding.{Rounded, above, below, round_neg, round_zero, rounded_mono, sub_rounded}
use Rattle.float32.proofs.Exactness.{den_divides, round_self}

abbrev naught : Float
naught = fin false 0 (pos 0)

-- ---- the sign of x - y

naught_rounded : (f : Format) → Rounded f naught 0 0 1
naught_rounded f = above (omega arith) (sym (round_zero f false 1 (omega arith)))

pub sub_ge_zero : (f : Format) (x y : Float) → T (finite x) → T (finite y) → T (le y x) → T (le naught (sub f x y))
sub_ge_zero f x y p q h =
    let k = le→cross y x q p h in
    rounded_mono (omega arith) (mul-pos (den_pos x) (den_pos y)) (naught_rounded f) (sub_rounded f x y p q) (omega arith)

pub sub_le_zero : (f : Format) (x y : Float) → T (finite x) → T (finite y) → T (le x y) → T (le (sub f x y) naught)
sub_le_zero f x y p q h =
    let k = le→cross x y p q h in
    rounded_mono (mul-pos (den_pos x) (den_pos y)) (omega arith) (sub_rounded f x y p q) (naught_rounded f) (omega arith)

-- ---- one unit or more does not round to 0

smallest : (f : Format) → T (lt naught (round f false 1 (2 ^ low f)))
unfolding round lt
smallest binary32 = tt
smallest binary64 = tt

round_gt_zero : (f : Format) (a c : ℕ) → 0 < c → c ≤ a * 2 ^ low f → T (lt naught (round f false a c))
round_gt_zero f a c C h =
    lt_le_trans naught (round f false 1 (2 ^ low f)) (round f false a c) (smallest f) (round_mono f 1 (2 ^ low f) a c (pow_pos (low f)) C (omega arith))

minus_below_zero : (r : Float) → T (lt naught r) → T (lt (neg r) naught)
unfolding neg
minus_below_zero r h = lt_le_trans (neg r) (fin true 0 (pos 0)) naught (neg_lt naught r h) (unfold le in tt)

-- ---- a difference is a whole number of units

-- (P - Q) / (d * d') in units of 1 / l, of which d and d' are whole numbers of: at least one where Q < P
one_unit : (p q d p' q' d' w w' l : ℕ) → 0 < l → l ≡ w * d → l ≡ w' * d' → q * d' + p' * d < p * d' + q' * d
    → d * d' ≤ ((p * d' + q' * d) - (q * d' + p' * d)) * l
one_unit p q d p' q' d' w w' l L e e' h =
    let a : (p * d' + q' * d) * l ≡ (p * w + q' * w') * (d * d') = omega (arith, ap (λ (z : ℕ). p * d' * z) e, ap (λ (z : ℕ). q' * d * z) e') in
    let b : (q * d' + p' * d) * l ≡ (q * w + p' * w') * (d * d') = omega (arith, ap (λ (z : ℕ). q * d' * z) e, ap (λ (z : ℕ). p' * d * z) e') in
    let k : (q * w + p' * w') * (d * d') < (p * w + q' * w') * (d * d') = rw (a, b) at (mul-lt-mul_of_pos_right h L) in
    let m : q * w + p' * w' < p * w + q' * w' = lt_of_mul-lt-mul_right (d * d') k in
    let n : suc (q * w + p' * w') * (d * d') ≤ (p * w + q' * w') * (d * d') = mul-le-mul_right (d * d') m in
    rw (mul_comm ((p * d' + q' * d) - (q * d' + p' * d)) l, mul-sub l (p * d' + q' * d) (q * d' + p' * d)) (omega (arith, a, b, n))

module _ (f : Format) (x y : Float) (p : T (finite x)) (q : T (finite y)) (X : T (fits f x)) (Y : T (fits f y)) where
  -- finite x < y gives x - y < 0, also where the difference is below every normal number
  pub sub_lt_zero : T (lt x y) → T (lt (sub f x y) naught)
  sub_lt_zero h = go (sub_rounded f x y p q) (lt→strict x y p q h)
    where
      go : Rounded f (sub f x y) (over x * den y + under y * den x) (under x * den y + over y * den x) (den x * den y) → Strict x y → T (lt (sub f x y) naught)
      go (above k e) s = absurd (omega arith)
      go (below k e) s =
          let u = den_divides f x p X in
          let v = den_divides f y q Y in
          let n = one_unit (under x) (over x) (den x) (under y) (over y) (den y) u.0 v.0 (2 ^ low f) (pow_pos (low f)) u.1 v.1 (omega arith) in
          rw (e, round_neg f _ _) (minus_below_zero _ (round_gt_zero f _ _ (mul-pos (den_pos x) (den_pos y)) n))

  pub sub_gt_zero : T (lt y x) → T (lt naught (sub f x y))
  sub_gt_zero h = go (sub_rounded f x y p q) (lt→strict y x q p h)
    where
      go : Rounded f (sub f x y) (over x * den y + under y * den x) (under x * den y + over y * den x) (den x * den y) → Strict y x → T (lt naught (sub f x y))
      go (below k e) s = absurd (omega arith)
      go (above k e) s =
          let u = den_divides f x p X in
          let v = den_divides f y q Y in
          let n = one_unit (over x) (under x) (den x) (over y) (under y) (den y) u.0 v.0 (2 ^ low f) (pow_pos (low f)) u.1 v.1 (omega arith) in
          rw e (round_gt_zero f _ _ (mul-pos (den_pos x) (den_pos y)) n)

-- ---- a product with 1 and -1

not_sign_fits : (f : Format) (s : Bool) (m : ℕ) (e : ℤ) → T (fits f (fin s m e)) → T (fits f (fin (not s) m e))
unfolding fits
not_sign_fits f s zero e h = h
not_sign_fits f s (suc m) e h = h

like : (s : Bool) → unlike s false ≡ s
like true = refl
like false = refl

turned : (s : Bool) → unlike s true ≡ not s
turned true = refl
turned false = refl

pub mul_one_self : (f : Format) (x : Float) → T (fits f x) → mul f x (fin false 1 (pos 0)) ≡ x
unfolding mul
mul_one_self f nan h = refl
mul_one_self f (inf s) h = ap inf (like s)
mul_one_self f (fin s m e) h = rw (like s, mul-one (down e), mul-one (m * up e)) (round_self f s m e h)

pub mul_minus_one : (f : Format) (x : Float) → T (fits f x) → mul f x (fin true 1 (pos 0)) ≡ neg x
unfolding mul neg
mul_minus_one f nan h = refl
mul_minus_one f (inf s) h = ap inf (turned s)
mul_minus_one f (fin s m e) h = rw (turned s, mul-one (down e), mul-one (m * up e)) (round_self f (not s) m e (not_sign_fits f s m e h))
