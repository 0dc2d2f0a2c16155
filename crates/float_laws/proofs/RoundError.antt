-- The error of one rounding: in the normal range at most 2 ^ -prec of the exact result, below it at most half of the smallest value. Stated by
-- products, either way.
use mathlib.Core.Path.{◌≡◌, refl, ap, ◌∙◌, subst}
use mathlib.Core.Bool.{Bool, true, false, not}
use Prim.Native.Nat.{ℕ, ◌+◌, ◌-◌, ◌*◌, ◌/◌, ◌%◌, ◌^◌, ◌≤◌, ◌<◌, compare, Ordering}
use native.Mathlib.Nat.{div-add-mod', mod-lt, mul-le-mul_right, mul_right_comm, mul_assoc, mul-pos}
use native.Mathlib.Nat.{mul-one, sub-eq-zero_of_le, div-lt_iff_lt-mul, le-div_iff_mul-le, le_of_mul-le-mul_right}
use native.Mathlib.Omega.{arith}
use lib.Dec.{T, is_le, compare_is_eq, leb→le, nleb→lt, eqb→eq}
use lib.Pow.{pow-add, pow_pos}
use lib.Ieee.{Float, nan, inf, fin, Format, binary32, binary64, prec, emax, low, size, nearest, up, down, unlike, round, mul, div}
use lib.Ieee.Digits.{size_reaches, size-le}
use lib.Ieee.Fits.{two, two-le_pos, down_pos}
use lib.Ieee.Nearest.{closest}
use lib.Ieee.Order.{drop, kept}
use lib.Ieee.Scale.{finite, grid, round_val, round_under, normal_of_fraction}
use lib.Ieee.Positive.{num, den, positive, value→cross}
use Rattle.float32.proofs.Order.{num_pos}
use Rattle.float32.proofs.OrderLaws.{neg_num, neg_den, neg_finite_back}
use Rattle.float32.proofs.Rounding.{round_neg, positive_not_zero}

-- ---- the nearest whole number is within a half
near : (w r u : ℕ) (o : Ordering) → r < u → (T (is_le o) → r * 2 ≤ u) → (T (not (is_le o)) → u < r * 2) → (T (compare_is_eq o) → r * 2 ≡ u)
    → (2 * (nearest w o * u) ≤ 2 * (w * u + r) + u) × (2 * (w * u + r) ≤ 2 * (nearest w o * u) + u)
near w r u Ordering.lt l h k e = let i = h tt in omega arith
near w r u Ordering.eq l h k e =
    let i = e tt in
    let j : w % 2 * u ≤ 1 * u = mul-le-mul_right u (omega arith) in
    omega arith
near w r u Ordering.gt l h k e = let i = k tt in omega arith

closest_near : (n u : ℕ) → 0 < u → (2 * (closest n u * u) ≤ 2 * n + u) × (2 * n ≤ 2 * (closest n u * u) + u)
closest_near n u U =
    subst (λ (z : ℕ). (2 * (closest n u * u) ≤ 2 * z + u) × (2 * z ≤ 2 * (closest n u * u) + u)) (div-add-mod' n u)
    (near (n / u) (n % u) u (compare (n % u * 2) u) (mod-lt n U) (leb→le (n % u * 2) u) (nleb→lt (n % u * 2) u) (eqb→eq (n % u * 2) u))

-- ---- a / c rounded, in units: off by half of what is kept last
unit : Format → ℕ → ℕ → ℕ
unit f a c = c * 2 ^ drop (prec f) (a * 2 ^ low f) c

grid_near : (f : Format) (a c : ℕ) → 0 < c
    → (2 * (grid f a c * c) ≤ 2 * (a * 2 ^ low f) + unit f a c) × (2 * (a * 2 ^ low f) ≤ 2 * (grid f a c * c) + unit f a c)
unfolding unit
grid_near f a c C =
    let n = a * 2 ^ low f in
    let k = drop (prec f) n c in
    rw (mul_right_comm (kept (prec f) n c) (2 ^ k) c, mul_assoc (kept (prec f) n c) c (2 ^ k)) (closest_near n (c * 2 ^ k) (mul-pos C (pow_pos k)))

-- in the normal range that is at most 2 ^ (1 - prec) of the whole
last : (z p : ℕ) → 0 < p → p ≤ z → p - 1 + (z - p) < z
last z p P h = omega arith

unit_normal : (f : Format) (a c : ℕ) → 0 < c → prec f ≤ size (a * 2 ^ low f / c) → 2 ^ (prec f - 1) * unit f a c ≤ a * 2 ^ low f
unfolding unit
unit_normal f a c C h =
    let n = a * 2 ^ low f in
    let k = drop (prec f) n c in
    let i : 2 ^ (prec f - 1 + k) ≤ n / c = size_reaches (n / c) (prec f - 1 + k) (last (size (n / c)) (prec f) (two-le_pos (prec f) (two f)) h) in
    omega (arith, rw pow-add at ((le-div_iff_mul-le C).0 i))

unit_small : (f : Format) (a c : ℕ) → 0 < c → a * 2 ^ low f < 2 ^ prec f * c → unit f a c ≡ c
unfolding unit
unit_small f a c C h = ap (λ (k : ℕ). c * 2 ^ k) (sub-eq-zero_of_le (size-le (a * 2 ^ low f / c) (prec f) ((div-lt_iff_lt-mul C).1 h))) ∙ mul-one c

-- ---- from units to the value N / D
relative : (h G c u N D a l : ℕ) → 0 < l → N * l ≡ G * D → h * u ≤ a * l → 2 * (G * c) ≤ 2 * (a * l) + u → 2 * (a * l) ≤ 2 * (G * c) + u
    → (h * 2 * (N * c) ≤ h * 2 * (a * D) + a * D) × (h * 2 * (a * D) ≤ h * 2 * (N * c) + a * D)
relative h G c u N D a l L e s i j =
    let e' : N * l * (h * c) ≡ G * D * (h * c) = ap (λ (z : ℕ). z * (h * c)) e in
    let s' : h * u * D ≤ a * l * D = mul-le-mul_right D s in
    let i' : 2 * (G * c) * (h * D) ≤ (2 * (a * l) + u) * (h * D) = mul-le-mul_right (h * D) i in
    let j' : 2 * (a * l) * (h * D) ≤ (2 * (G * c) + u) * (h * D) = mul-le-mul_right (h * D) j in
    let x : h * 2 * (N * c) * l ≤ (h * 2 * (a * D) + a * D) * l = omega arith in
    let y : h * 2 * (a * D) * l ≤ (h * 2 * (N * c) + a * D) * l = omega arith in
    (le_of_mul-le-mul_right x L, le_of_mul-le-mul_right y L)

absolute : (G c N D a l : ℕ) → 0 < l → N * l ≡ G * D → 2 * (G * c) ≤ 2 * (a * l) + c → 2 * (a * l) ≤ 2 * (G * c) + c
    → (2 * l * (N * c) ≤ 2 * l * (a * D) + c * D) × (2 * l * (a * D) ≤ 2 * l * (N * c) + c * D)
absolute G c N D a l L e i j =
    let e' : N * l * c ≡ G * D * c = ap (λ (z : ℕ). z * c) e in
    let i' : 2 * (G * c) * D ≤ (2 * (a * l) + c) * D = mul-le-mul_right D i in
    let j' : 2 * (a * l) * D ≤ (2 * (G * c) + c) * D = mul-le-mul_right D j in
    omega arith

-- ---- The size of x is a / c, up to 2 ^ -p of a / c
abbrev pub Relative : ℕ → Float → ℕ → ℕ → Type 0
Relative p x a c = (2 ^ p * (num x * c) ≤ 2 ^ p * (a * den x) + a * den x) × (2 ^ p * (a * den x) ≤ 2 ^ p * (num x * c) + a * den x)

-- up to half of 2 ^ -l
abbrev pub Absolute : ℕ → Float → ℕ → ℕ → Type 0
Absolute l x a c = (2 * 2 ^ l * (num x * c) ≤ 2 * 2 ^ l * (a * den x) + c * den x) × (2 * 2 ^ l * (a * den x) ≤ 2 * 2 ^ l * (num x * c) + c * den x)

pub twice : (f : Format) → 2 ^ prec f ≡ 2 ^ (prec f - 1) * 2
twice binary32 = refl
twice binary64 = refl

pub low_is : (f : Format) → 2 ^ low f ≡ 2 ^ (emax f - 1) * 2 ^ (prec f - 1)
low_is binary32 = refl
low_is binary64 = refl

normal : (f : Format) (a c : ℕ) → 0 < c → c ≤ a * 2 ^ (emax f - 1) → prec f ≤ size (a * 2 ^ low f / c)
normal f a c C h = normal_of_fraction f a c C (rw (low_is f) (omega (arith, mul-le-mul_right (2 ^ (prec f - 1)) h)))

above_relative : (f : Format) (a c : ℕ) → 0 < c → c ≤ a * 2 ^ (emax f - 1) → T (finite (round f false a c)) → Relative (prec f) (round f false a c) a c
above_relative f a c C h t =
    let x = round f false a c in
    let g = grid_near f a c C in
    rw (twice f)
    (relative (2 ^ (prec f - 1)) (grid f a c) c (unit f a c) (num x) (den x) a (2 ^ low f) (pow_pos (low f))
    (value→cross x (grid f a c) (2 ^ low f) (round_val f a c (round_under f a c t))) (unit_normal f a c C (normal f a c C h)) g.0 g.1)

-- fewer digits than the format keeps: the unit is the smallest value
below_absolute : (f : Format) (a c : ℕ) → 0 < c → a * 2 ^ low f < 2 ^ prec f * c → T (finite (round f false a c)) → Absolute (low f) (round f false a c) a c
below_absolute f a c C h t =
    let x = round f false a c in
    let g = grid_near f a c C in
    let u = unit_small f a c C h in
    absolute (grid f a c) c (num x) (den x) a (2 ^ low f) (pow_pos (low f))
    (value→cross x (grid f a c) (2 ^ low f) (round_val f a c (round_under f a c t))) (rw u at g.0) (rw u at g.1)

-- ---- with either sign
pub round_relative : (f : Format) (s : Bool) (a c : ℕ) → 0 < c → c ≤ a * 2 ^ (emax f - 1) → T (finite (round f s a c)) → Relative (prec f) (round f s a c) a c
round_relative f false a c C h t = above_relative f a c C h t
round_relative f true a c C h t =
    let x = round f false a c in
    rw (round_neg f a c, neg_num x, neg_den x) (above_relative f a c C h (neg_finite_back x (rw (round_neg f a c) at t)))

pub round_absolute : (f : Format) (s : Bool) (a c : ℕ) → 0 < c → a * 2 ^ low f < 2 ^ prec f * c → T (finite (round f s a c))
    → Absolute (low f) (round f s a c) a c
round_absolute f false a c C h t = below_absolute f a c C h t
round_absolute f true a c C h t =
    let x = round f false a c in
    rw (round_neg f a c, neg_num x, neg_den x) (below_absolute f a c C h (neg_finite_back x (rw (round_neg f a c) at t)))

-- ---- the product and the quotient of any signs, by their sizes
pub mul_relative : (f : Format) (x y : Float) → T (finite x) → T (finite y) → den x * den y ≤ num x * num y * 2 ^ (emax f - 1)
    → T (finite (mul f x y)) → Relative (prec f) (mul f x y) (num x * num y) (den x * den y)
unfolding mul
mul_relative f nan y p q h t = absurd p
mul_relative f (inf s) y p q h t = absurd p
mul_relative f (fin s m e) nan p q h t = absurd q
mul_relative f (fin s m e) (inf u) p q h t = absurd q
mul_relative f (fin s m e) (fin u n d) p q h t = round_relative f (unlike s u) (m * up e * (n * up d)) (down e * down d) (mul-pos (down_pos e) (down_pos d)) h t

pub div_relative : (f : Format) (x y : Float) → T (finite x) → T (positive y) → num y * den x ≤ num x * den y * 2 ^ (emax f - 1)
    → T (finite (div f x y)) → Relative (prec f) (div f x y) (num x * den y) (num y * den x)
unfolding div
div_relative f nan y p q h t = absurd p
div_relative f (inf s) y p q h t = absurd p
div_relative f (fin s m e) nan p q h t = absurd q
div_relative f (fin s m e) (inf u) p q h t = absurd q
div_relative f (fin s m e) (fin true n d) p q h t = absurd q
div_relative f (fin s m e) (fin false n d) p q h t =
    rw (positive_not_zero n q) (round_relative f (unlike s false) (m * up e * down d) (n * up d * down e)
    (mul-pos (num_pos (fin false n d) q) (down_pos e)) h (rw (positive_not_zero n q) at t))
