-- Each operation on finite values is its exact result, rounded once: a signed fraction (P - Q) / c, of which a zero has either sign. Rounding keeps
-- the order of such fractions.
use mathlib.Core.Path.{◌≡◌, refl, sym, ap, ◌∙◌, subst}
use mathlib.Core.Bool.{Bool, true, false, not, ◌&&◌, cond}
use Prim.Native.Nat.{ℕ, zero, suc, ◌+◌, ◌*◌, ◌-◌, ◌^◌, ◌≤◌, ◌<◌}
use native.Mathlib.Nat.{mul_comm, mul-sub, zero-mul, zero-lt-suc}
use native.Mathlib.Omega.{arith}
use lib.Dec.{T, ltb, eqb, ltb→lt}
use lib.IntN.{pos}
use lib.Ieee.{Float, nan, inf, fin, Format, binary32, binary64, prec, emax, low, up, down, unlike, odd, units, round, neg, sum, add, sub, mul, div, le, is_nan}
use lib.Ieee.Fits.{round_is}
use lib.Ieee.Order.{round_mono}
use lib.Ieee.Scale.{finite, round_same}
use lib.Ieee.Positive.{num, den, positive}
use borrow.Author.Tests.{ltb-true, ltb-false, eqb-true, eqb-false, lt-ltb, le-ltb, ne_eqb}
use Rattle.base.proofs.NumberLaws.{no_factor}
use Rattle.float32.specs.Signed.{negative, apart}
use Rattle.float32.specs.Signed.{over, under, sign_of}
use Rattle.float32.proofs.OrderLaws.{le_no_nan, le_trans, neg_neg, neg_le, neg_finite, neg_over, neg_under, neg_den}

-- ---- the sign goes through `round`
odd_neg : (d q k l : ℕ) → odd d true q k l ≡ neg (odd d false q k l)
unfolding odd neg
odd_neg d zero k l = refl
odd_neg d (suc q) k l = refl

units_neg : (f : Format) (q k : ℕ) → units f true q k ≡ neg (units f false q k)
unfolding units
units_neg f q k = go (ltb (q * 2 ^ k) (2 ^ (low f + suc (emax f))))
  where
    go : (b : Bool) → cond b (odd (suc (prec f)) true q k (low f)) (inf true) ≡ neg (cond b (odd (suc (prec f)) false q k (low f)) (inf false))
    go true = odd_neg (suc (prec f)) q k (low f)
    go false = unfold neg in refl

pub round_neg : (f : Format) (a c : ℕ) → round f true a c ≡ neg (round f false a c)
round_neg f a c = round_is f true a c ∙ units_neg f _ _ ∙ sym (ap neg (round_is f false a c))

-- ---- zero rounds to zero, and nothing rounds to a NaN
zero_over_one : (f : Format) (s : Bool) → round f s 0 1 ≡ fin s 0 (pos 0)
unfolding round
zero_over_one binary32 s = refl
zero_over_one binary64 s = refl

pub round_zero : (f : Format) (s : Bool) (c : ℕ) → 0 < c → round f s 0 c ≡ fin s 0 (pos 0)
round_zero f s c C = round_same f s 0 c 0 1 C (zero-lt-suc 0) (sym (zero-mul c)) ∙ zero_over_one f s

pub zero_le_round : (f : Format) (a c : ℕ) → 0 < c → T (le (fin false 0 (pos 0)) (round f false a c))
zero_le_round f a c C = subst (λ (z : Float). T (le z (round f false a c))) (round_zero f false c C) (round_mono f 0 c a c C C (rw zero-mul (omega arith)))

round_le_zero : (f : Format) (a c : ℕ) → 0 < c → T (le (round f true a c) (fin true 0 (pos 0)))
unfolding neg
round_le_zero f a c C =
    subst (λ (z : Float). T (le z (fin true 0 (pos 0)))) (sym (round_neg f a c)) (neg_le (fin false 0 (pos 0)) (round f false a c) (zero_le_round f a c C))

pub round_no_nan : (f : Format) (s : Bool) (a c : ℕ) → 0 < c → T (not (is_nan (round f s a c)))
round_no_nan f false a c C = (le_no_nan (fin false 0 (pos 0)) (round f false a c) (zero_le_round f a c C)).1
round_no_nan f true a c C = (le_no_nan (round f true a c) (fin true 0 (pos 0)) (round_le_zero f a c C)).0

-- ---- r is (P - Q) / c, rounded
pub data Rounded (f : Format) (r : Float) (P Q c : ℕ) : Type 0 where
  above : Q ≤ P → r ≡ round f false (P - Q) c → Rounded f r P Q c
  below : P ≤ Q → r ≡ round f true (Q - P) c → Rounded f r P Q c

pub rounded_no_nan : {f : Format} {r : Float} {P Q c : ℕ} → 0 < c → Rounded f r P Q c → T (not (is_nan r))
rounded_no_nan {f} {r} {P} {Q} {c} C (above h e) = subst (λ (z : Float). T (not (is_nan z))) (sym e) (round_no_nan f false (P - Q) c C)
rounded_no_nan {f} {r} {P} {Q} {c} C (below h e) = subst (λ (z : Float). T (not (is_nan z))) (sym e) (round_no_nan f true (Q - P) c C)

gap : (P Q c P' Q' c' : ℕ) → P * c' + Q' * c ≤ P' * c + Q * c' → (P - Q) * c' ≤ (P' - Q') * c
gap P Q c P' Q' c' h = rw (mul_comm (P - Q) c', mul-sub c' P Q, mul_comm (P' - Q') c, mul-sub c P' Q') (omega arith)

none : (d c n e : ℕ) → 0 < c → n ≡ 0 → d * c ≤ n * e → d ≡ 0
none d c n e C z h = let k = rw (z, zero-mul) at h in no_factor d c C (omega arith)

pub rounded_mono : {f : Format} {r r' : Float} {P Q c P' Q' c' : ℕ} → 0 < c → 0 < c' → Rounded f r P Q c → Rounded f r' P' Q' c'
    → P * c' + Q' * c ≤ P' * c + Q * c' → T (le r r')
rounded_mono {f} {r} {r'} {P} {Q} {c} {P'} {Q'} {c'} C C' (above p e) (above q e') h =
    rw (e, e') (round_mono f (P - Q) c (P' - Q') c' C C' (gap P Q c P' Q' c' h))
rounded_mono {f} {r} {r'} {P} {Q} {c} {P'} {Q'} {c'} C C' (below p e) (below q e') h =
    rw (e, e', round_neg f (Q - P) c, round_neg f (Q' - P') c')
    (neg_le (round f false (Q' - P') c') (round f false (Q - P) c) (round_mono f (Q' - P') c' (Q - P) c C' C (gap Q' P' c' Q P c (omega arith))))
rounded_mono {f} {r} {r'} {P} {Q} {c} {P'} {Q'} {c'} C C' (below p e) (above q e') h =
    rw (e, e')
    (le_trans (round f true (Q - P) c) (fin true 0 (pos 0)) (round f false (P' - Q') c') (round_le_zero f (Q - P) c C)
    (le_trans (fin true 0 (pos 0)) (fin false 0 (pos 0)) (round f false (P' - Q') c') (unfold le in tt) (zero_le_round f (P' - Q') c' C')))
rounded_mono {f} {r} {r'} {P} {Q} {c} {P'} {Q'} {c'} C C' (above p e) (below q e') h =
    let i : P - Q ≡ 0 = none (P - Q) c' (P' - Q') c C' (omega arith) (gap P Q c P' Q' c' h) in
    let j : Q' - P' ≡ 0 = none (Q' - P') c (Q - P) c' C (omega arith) (gap Q' P' c' Q P c (omega arith)) in
    rw (e ∙ ap (λ (z : ℕ). round f false z c) i ∙ round_zero f false c C, e' ∙ ap (λ (z : ℕ). round f true z c') j ∙ round_zero f true c' C') (unfold le in tt)

-- ---- x + y and x - y, each a difference of naturals with one rule for its sign
-- (p - q) / c, rounded, and a zero with the sign z
abbrev pub difference : Format → Bool → ℕ → ℕ → ℕ → Float
difference f z p q c = round f (sign_of z p q) (apart p q) c

sign_plus : (p q : ℕ) → sign_of false p q ≡ ltb p q
sign_plus p q = go (eqb p q) (eqb-true p q)
  where
    go : (b : Bool) → (b ≡ true → p ≡ q) → cond b false (ltb p q) ≡ ltb p q
    go true h = let e = h refl in sym (le-ltb p q (omega arith))
    go false h = refl

sign_minus : (p q : ℕ) → p ≤ q → sign_of true p q ≡ true
sign_minus p q l = go (eqb p q) (eqb-false p q)
  where
    go : (b : Bool) → (b ≡ false → p ≡ q → ⊥) → cond b true (ltb p q) ≡ true
    go true h = refl
    go false h = lt-ltb p q (omega (arith, h refl))

round_as : (f : Format) (z : Bool) (p q c : ℕ) (s : Bool) (a : ℕ) → sign_of z p q ≡ s → apart p q ≡ a → round f s a c ≡ difference f z p q c
round_as f z p q c s a e e' = rw (e, e')

-- ± a / c and ± b / c
sum_is : (f : Format) (s : Bool) (a : ℕ) (t : Bool) (b c p q : ℕ) → p ≡ cond s 0 a + cond t 0 b → q ≡ cond s a 0 + cond t b 0
    → sum f s a t b c ≡ difference f (s && t) p q c
unfolding sum
sum_is f false a false b c p q e e' = round_as f false p q c false (a + b) (sign_plus p q ∙ le-ltb p q (omega arith)) (omega arith)
sum_is f true a true b c p q e e' = round_as f true p q c true (a + b) (sign_minus p q (omega arith)) (omega arith)
sum_is f false a true b c p q e e' = go (ltb a b) (ltb-true a b) (ltb-false a b)
  where
    go : (u : Bool) → (u ≡ true → a < b) → (u ≡ false → b ≤ a) → cond u (round f true (b - a) c) (round f false (a - b) c) ≡ difference f false p q c
    go true h k = let l = h refl in round_as f false p q c true (b - a) (sign_plus p q ∙ lt-ltb p q (omega arith)) (omega arith)
    go false h k = let l = k refl in round_as f false p q c false (a - b) (sign_plus p q ∙ le-ltb p q (omega arith)) (omega arith)
sum_is f true a false b c p q e e' = go (ltb a b) (ltb-true a b) (ltb-false a b)
  where
    p_is : p ≡ b
    p_is = omega arith

    q_is : q ≡ a
    q_is = omega arith

    go : (u : Bool) → (u ≡ true → a < b) → (u ≡ false → b ≤ a)
        → cond u (round f false (b - a) c) (round f (ltb b a) (a - b) c) ≡ difference f false p q c
    go true h k = let l = h refl in round_as f false p q c false (b - a) (sign_plus p q ∙ le-ltb p q (omega arith)) (omega arith)
    go false h k = let l = k refl in round_as f false p q c (ltb b a) (a - b) (sign_plus p q ∙ rw (p_is, q_is)) (omega arith)

-- a product with one factor under a sign
cond_left : (s : Bool) (a d : ℕ) → cond s 0 a * d ≡ cond s 0 (a * d)
cond_left true a d = omega arith
cond_left false a d = refl

cond_right : (s : Bool) (a d : ℕ) → cond s a 0 * d ≡ cond s (a * d) 0
cond_right true a d = refl
cond_right false a d = omega arith

both : {a b c d : ℕ} → a ≡ b → c ≡ d → a + c ≡ b + d
both e e' = rw (e, e')

pub add_is : (f : Format) (x y : Float) → T (finite x) → T (finite y)
    → add f x y ≡ difference f (negative x && negative y) (over x * den y + over y * den x) (under x * den y + under y * den x) (den x * den y)
unfolding add
add_is f nan y p q = absurd p
add_is f (inf s) y p q = absurd p
add_is f (fin s m e) nan p q = absurd q
add_is f (fin s m e) (inf t) p q = absurd q
add_is f (fin s m e) (fin t n d) p q =
    sum_is f s (m * up e * down d) t (n * up d * down e) (down e * down d) _ _
    (both (cond_left s (m * up e) (down d)) (cond_left t (n * up d) (down e)))
    (both (cond_right s (m * up e) (down d)) (cond_right t (n * up d) (down e)))

neg_negative : (y : Float) → T (finite y) → negative (neg y) ≡ not (negative y)
unfolding neg
neg_negative nan q = absurd q
neg_negative (inf t) q = absurd q
neg_negative (fin t n d) q = refl

pub sub_is : (f : Format) (x y : Float) → T (finite x) → T (finite y)
    → sub f x y ≡ difference f (negative x && not (negative y)) (over x * den y + under y * den x) (under x * den y + over y * den x) (den x * den y)
unfolding sub
sub_is f x y p q = rw (neg_over y, neg_under y, neg_den y, neg_negative y q) at (add_is f x (neg y) p (neg_finite y q))

difference_rounded : (f : Format) (r : Float) (z : Bool) (p q c : ℕ) → r ≡ difference f z p q c → Rounded f r p q c
difference_rounded f r z p q c e = go (eqb p q) (ltb p q) z (eqb-true p q) (ltb-true p q) (ltb-false p q) e
  where
    go : (b l z : Bool) → (b ≡ true → p ≡ q) → (l ≡ true → p < q) → (l ≡ false → q ≤ p) → r ≡ round f (cond b z l) (apart p q) c → Rounded f r p q c
    go true l true h i j e = let k = h refl in below (omega arith) (e ∙ ap (λ (a : ℕ). round f true a c) (omega arith))
    go true l false h i j e = let k = h refl in above (omega arith) (e ∙ ap (λ (a : ℕ). round f false a c) (omega arith))
    go false true z h i j e = let k = i refl in below (omega arith) (e ∙ ap (λ (a : ℕ). round f true a c) (omega arith))
    go false false z h i j e = let k = j refl in above (omega arith) (e ∙ ap (λ (a : ℕ). round f false a c) (omega arith))

pub add_rounded : (f : Format) (x y : Float) → T (finite x) → T (finite y)
    → Rounded f (add f x y) (over x * den y + over y * den x) (under x * den y + under y * den x) (den x * den y)
add_rounded f x y p q = difference_rounded f (add f x y) _ _ _ _ (add_is f x y p q)

pub sub_rounded : (f : Format) (x y : Float) → T (finite x) → T (finite y)
    → Rounded f (sub f x y) (over x * den y + under y * den x) (under x * den y + over y * den x) (den x * den y)
sub_rounded f x y p q = difference_rounded f (sub f x y) _ _ _ _ (sub_is f x y p q)

-- ---- x * y, and x / y for a y above 0
pub mul_rounded : (f : Format) (x y : Float) → T (finite x) → T (finite y)
    → Rounded f (mul f x y) (over x * over y + under x * under y) (over x * under y + under x * over y) (den x * den y)
unfolding mul
mul_rounded f nan y p q = absurd p
mul_rounded f (inf s) y p q = absurd p
mul_rounded f (fin s m e) nan p q = absurd q
mul_rounded f (fin s m e) (inf t) p q = absurd q
mul_rounded f (fin false m e) (fin false n d) p q = above (omega arith) (ap (λ (z : ℕ). round f false z (down e * down d)) (omega arith))
mul_rounded f (fin false m e) (fin true n d) p q = below (omega arith) (ap (λ (z : ℕ). round f true z (down e * down d)) (omega arith))
mul_rounded f (fin true m e) (fin false n d) p q = below (omega arith) (ap (λ (z : ℕ). round f true z (down e * down d)) (omega arith))
mul_rounded f (fin true m e) (fin true n d) p q = above (omega arith) (ap (λ (z : ℕ). round f false z (down e * down d)) (omega arith))

-- the sign goes through a product
unlike_not : (s t : Bool) → unlike (not s) t ≡ not (unlike s t)
unlike_not true true = refl
unlike_not true false = refl
unlike_not false true = refl
unlike_not false false = refl

round_not : (f : Format) (s : Bool) (a c : ℕ) → round f (not s) a c ≡ neg (round f s a c)
round_not f false a c = round_neg f a c
round_not f true a c = sym (ap neg (round_neg f a c) ∙ neg_neg (round f false a c))

pub mul_neg : (f : Format) (x y : Float) → mul f (neg x) y ≡ neg (mul f x y)
unfolding mul neg
mul_neg f nan y = refl
mul_neg f (inf s) nan = refl
mul_neg f (inf s) (inf t) = ap inf (unlike_not s t)
mul_neg f (inf s) (fin t n d) = rw (unlike_not s t) (go (eqb n 0))
  where
    go : (b : Bool) → cond b nan (inf (not (unlike s t))) ≡ neg (cond b nan (inf (unlike s t)))
    go true = refl
    go false = refl
mul_neg f (fin s m e) nan = refl
mul_neg f (fin s m e) (inf t) = rw (unlike_not s t) (go (eqb m 0))
  where
    go : (b : Bool) → cond b nan (inf (not (unlike s t))) ≡ neg (cond b nan (inf (unlike s t)))
    go true = refl
    go false = refl
mul_neg f (fin s m e) (fin t n d) = rw (unlike_not s t) (round_not f (unlike s t) (m * up e * (n * up d)) (down e * down d))

pub positive_not_zero : (n : ℕ) → T (ltb 0 n) → eqb n 0 ≡ false
positive_not_zero n h = ne_eqb n 0 (λ e. clash e (ltb→lt 0 n h))
  where
    clash : n ≡ 0 → 0 < n → ⊥
    clash e k = omega arith

pub div_rounded : (f : Format) (x y : Float) → T (finite x) → T (positive y) → Rounded f (div f x y) (over x * den y) (under x * den y) (num y * den x)
unfolding div
div_rounded f nan y p q = absurd p
div_rounded f (inf s) y p q = absurd p
div_rounded f (fin s m e) nan p q = absurd q
div_rounded f (fin s m e) (inf t) p q = absurd q
div_rounded f (fin s m e) (fin true n d) p q = absurd q
div_rounded f (fin false m e) (fin false n d) p q =
    rw (positive_not_zero n q) (above (omega arith) (ap (λ (z : ℕ). round f false z (n * up d * down e)) (omega arith)))
div_rounded f (fin true m e) (fin false n d) p q =
    rw (positive_not_zero n q) (below (omega arith) (ap (λ (z : ℕ). round f true z (n * up d * down e)) (omega arith)))
