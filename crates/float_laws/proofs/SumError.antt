-- The error of a rounded sum or difference: at most 2 ^ -prec of the exact one, however small, since sums of a format's values are whole numbers of
-- its smallest units.
use mathlib.Core.Path.{◌≡◌, ap, ◌∙◌}
use mathlib.Core.Bool.{Bool, true, false}
use Prim.Native.Nat.{ℕ, suc, ◌+◌, ◌-◌, ◌*◌, ◌^◌, ◌≤◌, ◌<◌}
use native.Mathlib.Nat.{lt_of_not-le, le_trans, le-add_left, mul-le-mul_right, mul-pos, le_of_mul-le-mul_right}
use native.Mathlib.Omega.{arith}
use native.Mathlib.Decide.{dec_le}
use lib.Dec.{T}
use lib.Pow.{pow_pos, pow_mono}
use lib.Ieee.{Float, nan, inf, fin, Format, prec, emax, low, round, fits, add, sub, le}
use lib.Ieee.Fits.{reach}
use lib.Ieee.Exact.{HasValue, round_exact}
use lib.Ieee.Scale.{finite}
use lib.Ieee.Positive.{den, den_pos}
use Rattle.float32.specs.Signed.{apart}
use Rattle.float32.specs.Signed.{over, under}
use Rattle.float32.proofs.Order.{le→cross}
use Rattle.float32.proofs.Rounding.{Rounded, above, below, add_rounded, sub_rounded}
use Rattle.float32.proofs.Exactness.{den_divides}
use Rattle.float_laws.proofs.Standard.Distances.{apart_above, apart_below, apart_whole}
use Rattle.float_laws.proofs.RoundError.{Relative, round_relative, twice, low_is}

-- ---- a whole number of units is exact where it has few digits, and in the normal range where it has many
exact_relative : (p : ℕ) (x : Float) (s : Bool) (a c : ℕ) → HasValue x s a c → Relative p x a c
exact_relative p nan s a c h = absurd h
exact_relative p (inf t) s a c h = absurd h
exact_relative p (fin t m e) s a c h = rw h.1 (omega arith, omega arith)

large : (a c w b h : ℕ) → 0 < h → a * (b * h) ≡ w * c → h * 2 ≤ w → c ≤ a * b
large a c w b h P e k =
    let k' = mul-le-mul_right c k in
    let x : c * h ≤ a * b * h = omega arith in
    le_of_mul-le-mul_right x P

whole_relative : (f : Format) (s : Bool) (a c w : ℕ) → 0 < c → a * 2 ^ low f ≡ w * c → T (finite (round f s a c)) → Relative (prec f) (round f s a c) a c
whole_relative f s a c w C e t = go (dec_le (2 ^ prec f) w)
  where
    go : Dec (2 ^ prec f ≤ w) → Relative (prec f) (round f s a c) a c
    go (yes h) = round_relative f s a c C (large a c w (2 ^ (emax f - 1)) (2 ^ (prec f - 1)) (pow_pos (prec f - 1)) (rw (low_is f) at e) (rw (twice f) at h)) t
    go (no h) =
        let l : w < 2 ^ prec f = lt_of_not-le h in
        let r : 2 ^ prec f ≤ 2 ^ (low f + suc (emax f)) = pow_mono (le_trans (reach f) (le-add_left (suc (emax f)) (low f))) in
        exact_relative (prec f) (round f s a c) s a c (round_exact f s a c w 0 C l (omega arith) (omega arith))

rounded_whole : {f : Format} {r : Float} {P Q c : ℕ} (p q : ℕ) → 0 < c → Rounded f r P Q c → P * 2 ^ low f ≡ p * c → Q * 2 ^ low f ≡ q * c
    → T (finite r) → Relative (prec f) r (apart P Q) c
rounded_whole {f} {r} {P} {Q} {c} p q C (above h e) i j t =
    let k = e ∙ ap (λ (z : ℕ). round f false z c) (apart_above P Q h) in
    rw k (whole_relative f false (apart P Q) c (apart p q) C (apart_whole P Q (2 ^ low f) c p q i j) (rw k at t))
rounded_whole {f} {r} {P} {Q} {c} p q C (below h e) i j t =
    let k = e ∙ ap (λ (z : ℕ). round f true z c) (apart_below P Q h) in
    rw k (whole_relative f true (apart P Q) c (apart p q) C (apart_whole P Q (2 ^ low f) c p q i j) (rw k at t))

-- a / d + b / g, in units of 1 / l, for d and g that divide l
whole_sum : (a b d g l v w : ℕ) → l ≡ v * d → l ≡ w * g → (a * g + b * d) * l ≡ (a * v + b * w) * (d * g)
whole_sum a b d g l v w h k =
    let h' : a * g * l ≡ a * g * (v * d) = ap (λ (z : ℕ). a * g * z) h in
    let k' : b * d * l ≡ b * d * (w * g) = ap (λ (z : ℕ). b * d * z) k in
    omega arith

pub add_relative : (f : Format) (x y : Float) → T (finite x) → T (finite y) → T (fits f x) → T (fits f y) → T (finite (add f x y))
    → Relative (prec f) (add f x y) (apart (over x * den y + over y * den x) (under x * den y + under y * den x)) (den x * den y)
add_relative f x y p q a b t =
    let v = den_divides f x p a in
    let w = den_divides f y q b in
    rounded_whole (over x * v.0 + over y * w.0) (under x * v.0 + under y * w.0) (mul-pos (den_pos x) (den_pos y)) (add_rounded f x y p q)
    (whole_sum (over x) (over y) (den x) (den y) (2 ^ low f) v.0 w.0 v.1 w.1)
    (whole_sum (under x) (under y) (den x) (den y) (2 ^ low f) v.0 w.0 v.1 w.1) t

pub sub_relative : (f : Format) (x y : Float) → T (finite x) → T (finite y) → T (fits f x) → T (fits f y) → T (finite (sub f x y))
    → Relative (prec f) (sub f x y) (apart (over x * den y + under y * den x) (under x * den y + over y * den x)) (den x * den y)
sub_relative f x y p q a b t =
    let v = den_divides f x p a in
    let w = den_divides f y q b in
    rounded_whole (over x * v.0 + under y * w.0) (under x * v.0 + over y * w.0) (mul-pos (den_pos x) (den_pos y)) (sub_rounded f x y p q)
    (whole_sum (over x) (under y) (den x) (den y) (2 ^ low f) v.0 w.0 v.1 w.1)
    (whole_sum (under x) (over y) (den x) (den y) (2 ^ low f) v.0 w.0 v.1 w.1) t

-- x - y for y ≤ x
pub sub_relative_above : (f : Format) (x y : Float) → T (finite x) → T (finite y) → T (fits f x) → T (fits f y) → T (finite (sub f x y)) → T (le y x)
    → Relative (prec f) (sub f x y) (over x * den y + under y * den x - (under x * den y + over y * den x)) (den x * den y)
sub_relative_above f x y p q a b t l =
    let k = le→cross y x q p l in
    rw (apart_above (over x * den y + under y * den x) (under x * den y + over y * den x) (omega arith)) (sub_relative f x y p q a b t)
