-- Rounded arithmetic is monotone: x + c, x - c, c - x for a finite c, and x * k, x / k for a k above 0, over every x that is no NaN, the infinities
-- with them; none of these results is a NaN.
use mathlib.Core.Path.{◌≡◌, refl}
use mathlib.Core.Bool.{Bool, true, false, not}
use Prim.Native.Nat.{ℕ, ◌+◌, ◌*◌, ◌≤◌, ◌<◌}
use native.Mathlib.Nat.{add-mul, mul-pos, mul-le-mul_right}
use native.Mathlib.Omega.{arith}
use lib.Dec.{T}
use lib.Ieee.{Float, nan, inf, fin, Format, neg, add, sub, mul, div, le, is_nan}
use lib.Ieee.Scale.{finite}
use lib.Ieee.Positive.{num, den, den_pos, positive, positive-finite}
use Rattle.float32.specs.Signed.{over, under}
use Rattle.float32.proofs.Order.{num_pos, positive_under, Ordered, from_lowest, to_highest, numbers, le→ordered, ordered→le}
use Rattle.float32.proofs.OrderLaws.{le_refl, le_no_nan, finite_no_nan, neg_le, neg_no_nan, neg_finite}
use Rattle.float32.proofs.Rounding.{rounded_mono, rounded_no_nan}
use Rattle.float32.proofs.Rounding.{add_rounded, mul_rounded, div_rounded, positive_not_zero}

-- ---- x + y
add_lowest : (f : Format) (x : Float) → T (not (is_nan (add f (inf true) x))) → add f (inf true) x ≡ inf true
unfolding add is_nan
add_lowest f nan h = absurd h
add_lowest f (inf true) h = refl
add_lowest f (inf false) h = absurd h
add_lowest f (fin t n d) h = refl

add_highest : (f : Format) (x : Float) → T (not (is_nan (add f (inf false) x))) → add f (inf false) x ≡ inf false
unfolding add is_nan
add_highest f nan h = absurd h
add_highest f (inf true) h = absurd h
add_highest f (inf false) h = refl
add_highest f (fin t n d) h = refl

add_inf : (f : Format) (s : Bool) (x : Float) → T (finite x) → add f x (inf s) ≡ inf s
unfolding add
add_inf f s nan p = absurd p
add_inf f s (inf t) p = absurd p
add_inf f s (fin t n d) p = refl

sums : (px qx dx py qy dy pc qc dc pd qd dd : ℕ) → px * dy + qy * dx ≤ py * dx + qx * dy → pc * dd + qd * dc ≤ pd * dc + qc * dd
    → (px * dc + pc * dx) * (dy * dd) + (qy * dd + qd * dy) * (dx * dc) ≤ (py * dd + pd * dy) * (dx * dc) + (qx * dc + qc * dx) * (dy * dd)
sums px qx dx py qy dy pc qc dc pd qd dd h k =
    let a : px * dc * (dy * dd) + qy * dd * (dx * dc) ≤ py * dd * (dx * dc) + qx * dc * (dy * dd) = omega (arith, mul-le-mul_right (dc * dd) h) in
    let b : pc * dx * (dy * dd) + qd * dy * (dx * dc) ≤ pd * dy * (dx * dc) + qc * dx * (dy * dd) = omega (arith, mul-le-mul_right (dx * dy) k) in
    simp add-mul (omega (arith, a, b))

add_le : (f : Format) {x y c d : Float} → Ordered x y → Ordered c d → T (not (is_nan (add f x c))) → T (not (is_nan (add f y d))) → T (le (add f x c) (add f y d))
add_le f {c = c} (from_lowest h) k p q = rw (add_lowest f c p) (ordered→le (from_lowest q))
add_le f {d = d} (to_highest h) k p q = rw (add_highest f d q) (ordered→le (to_highest p))
add_le f (numbers {x = x} a b h) (from_lowest k) p q = rw (add_inf f true x a) (ordered→le (from_lowest q))
add_le f (numbers {y = y} a b h) (to_highest k) p q = rw (add_inf f false y b) (ordered→le (to_highest p))
add_le f (numbers {x = x} {y = y} a b h) (numbers {x = c} {y = d} a' b' k) p q =
    rounded_mono (mul-pos (den_pos x) (den_pos c)) (mul-pos (den_pos y) (den_pos d)) (add_rounded f x c a a') (add_rounded f y d b b')
    (sums (over x) (under x) (den x) (over y) (under y) (den y) (over c) (under c) (den c) (over d) (under d) (den d) h k)

-- in both arguments, where the sums are no NaN
pub add_mono_both : (f : Format) (x y c d : Float) → T (le x y) → T (le c d) → T (not (is_nan (add f x c))) → T (not (is_nan (add f y d)))
    → T (le (add f x c) (add f y d))
add_mono_both f x y c d h k p q = add_le f (le→ordered x y h) (le→ordered c d k) p q

pub add_no_nan : (f : Format) (x c : Float) → T (not (is_nan x)) → T (finite c) → T (not (is_nan (add f x c)))
add_no_nan f x nan p C = absurd C
add_no_nan f x (inf t) p C = absurd C
add_no_nan f nan (fin t n d) p C = absurd (unfold is_nan in p)
add_no_nan f (inf s) (fin t n d) p C = unfold add is_nan in tt
add_no_nan f (fin s m e) (fin t n d) p C = rounded_no_nan (mul-pos (den_pos (fin s m e)) (den_pos (fin t n d))) (add_rounded f (fin s m e) (fin t n d) tt tt)

pub add_no_nan_right : (f : Format) (c x : Float) → T (finite c) → T (not (is_nan x)) → T (not (is_nan (add f c x)))
add_no_nan_right f nan x C p = absurd C
add_no_nan_right f (inf t) x C p = absurd C
add_no_nan_right f (fin t n d) nan C p = absurd (unfold is_nan in p)
add_no_nan_right f (fin t n d) (inf s) C p = unfold add is_nan in tt
add_no_nan_right f (fin t n d) (fin s m e) C p = add_no_nan f (fin t n d) (fin s m e) (finite_no_nan (fin t n d) tt) tt

pub add_mono : (f : Format) (x y c : Float) → T (finite c) → T (le x y) → T (le (add f x c) (add f y c))
add_mono f x y c C h =
    let n = le_no_nan x y h in
    add_mono_both f x y c c h (le_refl c (finite_no_nan c C)) (add_no_nan f x c n.0 C) (add_no_nan f y c n.1 C)

-- ---- x - c and c - x
pub sub_no_nan : (f : Format) (x c : Float) → T (not (is_nan x)) → T (finite c) → T (not (is_nan (sub f x c)))
unfolding sub
sub_no_nan f x c p C = add_no_nan f x (neg c) p (neg_finite c C)

pub sub_no_nan_right : (f : Format) (c x : Float) → T (finite c) → T (not (is_nan x)) → T (not (is_nan (sub f c x)))
unfolding sub
sub_no_nan_right f c x C p = add_no_nan_right f c (neg x) C (neg_no_nan x p)

pub sub_mono : (f : Format) (x y c : Float) → T (finite c) → T (le x y) → T (le (sub f x c) (sub f y c))
unfolding sub
sub_mono f x y c C h = add_mono f x y (neg c) (neg_finite c C) h

pub sub_anti : (f : Format) (c x y : Float) → T (finite c) → T (le x y) → T (le (sub f c y) (sub f c x))
unfolding sub
sub_anti f c x y C h =
    let n = le_no_nan x y h in
    add_mono_both f c c (neg y) (neg x) (le_refl c (finite_no_nan c C)) (neg_le x y h) (sub_no_nan_right f c y C n.1) (sub_no_nan_right f c x C n.0)

-- ---- x * k
mul_inf : (f : Format) (s : Bool) (k : Float) → T (positive k) → mul f (inf s) k ≡ inf s
unfolding mul
mul_inf f s nan K = absurd K
mul_inf f s (inf t) K = absurd K
mul_inf f s (fin true n d) K = absurd K
mul_inf f true (fin false n d) K = rw (positive_not_zero n K)
mul_inf f false (fin false n d) K = rw (positive_not_zero n K)

scale : (px qx dx py qy dy n u d : ℕ) → u ≡ 0 → px * dy + qy * dx ≤ py * dx + qx * dy
    → (px * n + qx * u) * (dy * d) + (py * u + qy * n) * (dx * d) ≤ (py * n + qy * u) * (dx * d) + (px * u + qx * n) * (dy * d)
scale px qx dx py qy dy n u d e h =
    rw e (omega (arith, mul-le-mul_right (n * d) h))

pub mul_no_nan : (f : Format) (x k : Float) → T (not (is_nan x)) → T (positive k) → T (not (is_nan (mul f x k)))
mul_no_nan f nan k p K = absurd (unfold is_nan in p)
mul_no_nan f (inf s) k p K = rw (mul_inf f s k K) p
mul_no_nan f (fin s m e) k p K = rounded_no_nan (mul-pos (den_pos (fin s m e)) (den_pos k)) (mul_rounded f (fin s m e) k tt (positive-finite k K))

mul_le : (f : Format) {x y : Float} (k : Float) → T (positive k) → Ordered x y → T (le (mul f x k) (mul f y k))
mul_le f k K (from_lowest {y = y} h) = rw (mul_inf f true k K) (ordered→le (from_lowest (mul_no_nan f y k h K)))
mul_le f k K (to_highest {x = x} h) = rw (mul_inf f false k K) (ordered→le (to_highest (mul_no_nan f x k h K)))
mul_le f k K (numbers {x = x} {y = y} a b h) =
    rounded_mono (mul-pos (den_pos x) (den_pos k)) (mul-pos (den_pos y) (den_pos k)) (mul_rounded f x k a (positive-finite k K))
    (mul_rounded f y k b (positive-finite k K))
    (scale (over x) (under x) (den x) (over y) (under y) (den y) (over k) (under k) (den k) (positive_under k K) h)

pub mul_mono : (f : Format) (x y k : Float) → T (positive k) → T (le x y) → T (le (mul f x k) (mul f y k))
mul_mono f x y k K h = mul_le f k K (le→ordered x y h)

-- ---- x / k
div_inf : (f : Format) (s : Bool) (k : Float) → T (positive k) → div f (inf s) k ≡ inf s
unfolding div
div_inf f s nan K = absurd K
div_inf f s (inf t) K = absurd K
div_inf f s (fin true n d) K = absurd K
div_inf f true (fin false n d) K = refl
div_inf f false (fin false n d) K = refl

shrink : (px qx dx py qy dy n d : ℕ) → px * dy + qy * dx ≤ py * dx + qx * dy → px * d * (n * dy) + qy * d * (n * dx) ≤ py * d * (n * dx) + qx * d * (n * dy)
shrink px qx dx py qy dy n d h =
    omega (arith, mul-le-mul_right (n * d) h)

div_den : (x k : Float) → T (positive k) → 0 < num k * den x
div_den x k K = mul-pos (num_pos k K) (den_pos x)

pub div_no_nan : (f : Format) (x k : Float) → T (not (is_nan x)) → T (positive k) → T (not (is_nan (div f x k)))
div_no_nan f nan k p K = absurd (unfold is_nan in p)
div_no_nan f (inf s) k p K = rw (div_inf f s k K) p
div_no_nan f (fin s m e) k p K = rounded_no_nan (div_den (fin s m e) k K) (div_rounded f (fin s m e) k tt K)

div_le : (f : Format) {x y : Float} (k : Float) → T (positive k) → Ordered x y → T (le (div f x k) (div f y k))
div_le f k K (from_lowest {y = y} h) = rw (div_inf f true k K) (ordered→le (from_lowest (div_no_nan f y k h K)))
div_le f k K (to_highest {x = x} h) = rw (div_inf f false k K) (ordered→le (to_highest (div_no_nan f x k h K)))
div_le f k K (numbers {x = x} {y = y} a b h) =
    rounded_mono (div_den x k K) (div_den y k K) (div_rounded f x k a K) (div_rounded f y k b K)
    (shrink (over x) (under x) (den x) (over y) (under y) (den y) (num k) (den k) h)

pub div_mono : (f : Format) (x y k : Float) → T (positive k) → T (le x y) → T (le (div f x k) (div f y k))
div_mono f x y k K h = div_le f k K (le→ordered x y h)
