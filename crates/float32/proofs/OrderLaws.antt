-- The order of floats: `le` is reflexive, transitive and total off NaN, `lt` is its negation the other way round, `eq` is both ways, and `neg` reverses it.
use mathlib.Core.Path.{◌≡◌, refl, sym, ap, ◌∙◌, subst}
use mathlib.Core.Logic.{◌⊎◌, inl, inr}
use mathlib.Core.Bool.{Bool, true, false, not, ◌||◌, beq}
use Prim.Native.Nat.{ℕ, ◌+◌, ◌*◌, ◌≤◌, ◌<◌}
use native.Mathlib.Nat.{mul-le-mul_right, le_of_mul-le-mul_right, lt_of_not-le, not-le_of_lt}
use native.Mathlib.Omega.{arith}
use lib.Dec.{T, eqb, eqb→eq, T_not, not_T}
use lib.Ieee.{Float, nan, inf, fin, up, down, neg, level, lt, eq, le, is_nan}
use lib.Ieee.Fits.{and_l}
use lib.Ieee.Scale.{finite}
use lib.Ieee.Positive.{num, den, den_pos}
use mir.Facts.{or_yes}
use Rattle.base.proofs.Truth.{T_ext}
use Rattle.float32.specs.Signed.{over, under}
use Rattle.float32.proofs.Order.{Ordered, from_lowest, to_highest, numbers, le→ordered}
use Rattle.float32.proofs.Order.{ordered→le, le→cross, cross→le, lt→strict, strict→lt}

-- ---- no NaN is ordered
pub finite_no_nan : (x : Float) → T (finite x) → T (not (is_nan x))
unfolding is_nan
finite_no_nan nan h = absurd h
finite_no_nan (inf s) h = absurd h
finite_no_nan (fin s m e) h = tt

inf_no_nan : (s : Bool) → T (not (is_nan (inf s)))
unfolding is_nan
inf_no_nan s = tt

ordered_no_nan : {x y : Float} → Ordered x y → T (not (is_nan x)) × T (not (is_nan y))
ordered_no_nan (from_lowest p) = (inf_no_nan true, p)
ordered_no_nan (to_highest p) = (p, inf_no_nan false)
ordered_no_nan (numbers {x = x} {y = y} p q h) = (finite_no_nan x p, finite_no_nan y q)

pub le_no_nan : (x y : Float) → T (le x y) → T (not (is_nan x)) × T (not (is_nan y))
le_no_nan x y h = ordered_no_nan (le→ordered x y h)

-- ---- transitive
-- (p - q) / d ≤ (p' - q') / d' ≤ (p'' - q'') / d''
chain : (p q d p' q' d' p'' q'' d'' : ℕ) → 0 < d' → p * d' + q' * d ≤ p' * d + q * d' → p' * d'' + q'' * d' ≤ p'' * d' + q' * d''
    → p * d'' + q'' * d ≤ p'' * d + q * d''
chain p q d p' q' d' p'' q'' d'' D h k =
    let e : (p * d'' + q'' * d) * d' ≤ (p'' * d + q * d'') * d' = omega (arith, mul-le-mul_right d'' h, mul-le-mul_right d k) in
    le_of_mul-le-mul_right e D

ordered_trans : {x y z : Float} → Ordered x y → Ordered y z → Ordered x z
ordered_trans (from_lowest p) k = from_lowest (ordered_no_nan k).1
ordered_trans (to_highest p) (to_highest q) = to_highest p
ordered_trans (numbers {x = x} p q h) (to_highest r) = to_highest (finite_no_nan x p)
ordered_trans (numbers {x = x} {y = y} p q h) (numbers {y = z} r s k) =
    numbers p s (chain (over x) (under x) (den x) (over y) (under y) (den y) (over z) (under z) (den z) (den_pos y) h k)
ordered_trans {z = z} (to_highest p) (numbers r s k) = elim r [ ]
ordered_trans {z = z} (numbers p q h) (from_lowest _) = elim q [ ]

pub le_trans : (x y z : Float) → T (le x y) → T (le y z) → T (le x z)
le_trans x y z h k = ordered→le (ordered_trans (le→ordered x y h) (le→ordered y z k))

-- ---- between finite values lie only finite ones
ordered_finite : {x y z : Float} → T (finite x) → T (finite z) → Ordered x y → Ordered y z → T (finite y)
ordered_finite a c (from_lowest p) k = absurd a
ordered_finite a c (to_highest p) (to_highest q) = absurd c
ordered_finite a c (numbers p q h) k = q
ordered_finite {z = z} a c (to_highest p) (numbers x13 _ _) = elim x13 [ ]

pub finite_between : (x y z : Float) → T (finite x) → T (finite z) → T (le x y) → T (le y z) → T (finite y)
finite_between x y z a c h k = ordered_finite a c (le→ordered x y h) (le→ordered y z k)

-- ---- strict
pub lt_le : (x y : Float) → T (lt x y) → T (le x y)
unfolding le
lt_le x y h = or_l (lt x y) (eq x y) h
  where
    or_l : (a b : Bool) → T a → T (a || b)
    or_l true b h = tt
    or_l false b h = absurd h

pub lt_not_le : (x y : Float) → T (not (is_nan x)) → T (not (is_nan y)) → lt x y ≡ not (le y x)
unfolding is_nan
lt_not_le nan y p q = absurd p
lt_not_le (inf s) nan p q = absurd q
lt_not_le (inf true) (inf true) p q = unfold lt le in refl
lt_not_le (inf true) (inf false) p q = unfold lt le in refl
lt_not_le (inf false) (inf true) p q = unfold lt le in refl
lt_not_le (inf false) (inf false) p q = unfold lt le in refl
lt_not_le (inf true) (fin t n d) p q = unfold lt le in refl
lt_not_le (inf false) (fin t n d) p q = unfold lt le in refl
lt_not_le (fin s m e) nan p q = absurd q
lt_not_le (fin s m e) (inf true) p q = unfold lt le in refl
lt_not_le (fin s m e) (inf false) p q = unfold lt le in refl
lt_not_le (fin s m e) (fin t n d) p q =
    let x = fin s m e in
    let y = fin t n d in
    T_ext (lt x y) (not (le y x))
    (λ h. not_T (le y x) (λ k. not-le_of_lt (lt→strict x y tt tt h) (le→cross y x tt tt k)))
    (λ h. strict→lt x y tt tt (lt_of_not-le (λ k. T_not (le y x) h (cross→le y x tt tt k))))

pub le_or_lt : (x y : Float) → T (not (is_nan x)) → T (not (is_nan y)) → T (le x y) ⊎ T (lt y x)
le_or_lt x y p q = go (le x y) refl
  where
    go : (b : Bool) → le x y ≡ b → T (le x y) ⊎ T (lt y x)
    go true e = inl (subst T (sym e) tt)
    go false e = inr (subst T (sym (lt_not_le y x q p ∙ ap not e)) tt)

pub le_refl : (x : Float) → T (not (is_nan x)) → T (le x x)
le_refl x p = elim (le_or_lt x x p p) [ inl h ↦ h | inr h ↦ lt_le x x h ]

pub le_total : (x y : Float) → T (not (is_nan x)) → T (not (is_nan y)) → T (le x y) ⊎ T (le y x)
le_total x y p q = elim (le_or_lt x y p q) [ inl h ↦ inl h | inr h ↦ inr (lt_le y x h) ]

pub not_lt→le : (x y : Float) → T (not (is_nan x)) → T (not (is_nan y)) → lt x y ≡ false → T (le y x)
not_lt→le x y p q e = elim (le_or_lt y x q p) [ inl h ↦ h | inr h ↦ absurd (subst T e h) ]

pub lt→not_le : (x y : Float) → T (lt x y) → T (le y x) → ⊥
lt→not_le x y h k =
    let n = le_no_nan y x k in
    T_not (le y x) (subst T (lt_not_le x y n.1 n.0) h) k

pub le→not_lt : (x y : Float) → T (le x y) → lt y x ≡ false
le→not_lt x y h = T_ext (lt y x) false (λ k. lt→not_le y x k h) (λ k. absurd k)

pub lt_le_trans : (x y z : Float) → T (lt x y) → T (le y z) → T (lt x z)
lt_le_trans x y z h k =
    elim (le_or_lt z x (le_no_nan y z k).1 (le_no_nan x y (lt_le x y h)).0) [
      | inl l ↦ absurd (lt→not_le x y h (le_trans y z x k l))
      | inr l ↦ l
    ]

pub le_lt_trans : (x y z : Float) → T (le x y) → T (lt y z) → T (lt x z)
le_lt_trans x y z h k =
    elim (le_or_lt z x (le_no_nan y z (lt_le y z k)).1 (le_no_nan x y h).0) [
      | inl l ↦ absurd (lt→not_le y z k (le_trans z x y l h))
      | inr l ↦ l
    ]

pub lt_trans : (x y z : Float) → T (lt x y) → T (lt y z) → T (lt x z)
lt_trans x y z h k = lt_le_trans x y z h (lt_le y z k)

-- ---- equal
level_sym : (s t : Bool) (a : ℕ) → T (level s a t a) → T (level t a s a)
level_sym true true a h = h
level_sym true false a h = h
level_sym false true a h = h
level_sym false false a h = h

pub eq_sym : (x y : Float) → T (eq x y) → T (eq y x)
unfolding eq
eq_sym nan y h = absurd h
eq_sym (inf s) nan h = absurd h
eq_sym (inf true) (inf true) h = h
eq_sym (inf true) (inf false) h = h
eq_sym (inf false) (inf true) h = h
eq_sym (inf false) (inf false) h = h
eq_sym (inf s) (fin t n d) h = absurd h
eq_sym (fin s m e) nan h = absurd h
eq_sym (fin s m e) (inf t) h = absurd h
eq_sym (fin s m e) (fin t n d) h =
    let a = m * up e * down d in
    let b = n * up d * down e in
    let i : a ≡ b = eqb→eq a b (and_l (eqb a b) (beq s t || eqb a 0) h) in
    subst (λ (z : ℕ). T (level t z s a)) i (level_sym s t a (subst (λ (z : ℕ). T (level s a t z)) (sym i) h))

eq_le : (x y : Float) → T (eq x y) → T (le x y)
unfolding le
eq_le x y h = or_r (lt x y) (eq x y) h
  where
    or_r : (a b : Bool) → T b → T (a || b)
    or_r true b h = tt
    or_r false b h = h

pub eq→le : (x y : Float) → T (eq x y) → T (le x y) × T (le y x)
eq→le x y h = (eq_le x y h, eq_le y x (eq_sym x y h))

pub le→eq : (x y : Float) → T (le x y) → T (le y x) → T (eq x y)
le→eq x y h k = elim (or_yes (lt x y) (eq x y) (unfold le in h)) [ inl l ↦ absurd (lt→not_le x y l k) | inr e ↦ e ]

-- ---- reversed
pub neg_neg : (x : Float) → neg (neg x) ≡ x
unfolding neg
neg_neg nan = refl
neg_neg (inf true) = refl
neg_neg (inf false) = refl
neg_neg (fin true m e) = refl
neg_neg (fin false m e) = refl

pub neg_no_nan : (x : Float) → T (not (is_nan x)) → T (not (is_nan (neg x)))
unfolding neg is_nan
neg_no_nan nan h = h
neg_no_nan (inf s) h = h
neg_no_nan (fin s m e) h = h

pub neg_finite : (x : Float) → T (finite x) → T (finite (neg x))
unfolding neg
neg_finite nan h = h
neg_finite (inf s) h = h
neg_finite (fin s m e) h = h

pub neg_finite_back : (x : Float) → T (finite (neg x)) → T (finite x)
neg_finite_back x h = rw neg_neg at (neg_finite (neg x) h)

pub neg_num : (x : Float) → num (neg x) ≡ num x
unfolding neg
neg_num nan = refl
neg_num (inf s) = refl
neg_num (fin s m e) = refl

pub neg_over : (x : Float) → over (neg x) ≡ under x
unfolding neg
neg_over nan = refl
neg_over (inf s) = refl
neg_over (fin true m e) = refl
neg_over (fin false m e) = refl

pub neg_under : (x : Float) → under (neg x) ≡ over x
unfolding neg
neg_under nan = refl
neg_under (inf s) = refl
neg_under (fin true m e) = refl
neg_under (fin false m e) = refl

pub neg_den : (x : Float) → den (neg x) ≡ den x
unfolding neg
neg_den nan = refl
neg_den (inf s) = refl
neg_den (fin s m e) = refl

ordered_neg : {x y : Float} → Ordered x y → Ordered (neg y) (neg x)
unfolding neg
ordered_neg (from_lowest {y = y} p) = to_highest (neg_no_nan y p)
ordered_neg (to_highest {x = x} p) = from_lowest (neg_no_nan x p)
ordered_neg (numbers {x = x} {y = y} p q h) =
    numbers {x = neg y} {y = neg x} (neg_finite y q) (neg_finite x p)
    (rw (neg_over x, neg_over y, neg_under x, neg_under y, neg_den x, neg_den y) (omega arith))

pub neg_le : (x y : Float) → T (le x y) → T (le (neg y) (neg x))
neg_le x y h = ordered→le (ordered_neg (le→ordered x y h))

pub neg_lt : (x y : Float) → T (lt x y) → T (lt (neg y) (neg x))
neg_lt x y h =
    let n = le_no_nan x y (lt_le x y h) in
    elim (le_or_lt (neg x) (neg y) (neg_no_nan x n.0) (neg_no_nan y n.1)) [
      | inl l ↦ absurd (lt→not_le x y h (subst (λ (z : Float). T (le z x)) (neg_neg y)
          (subst (λ (z : Float). T (le (neg (neg y)) z)) (neg_neg x) (neg_le (neg x) (neg y) l))))
      | inr l ↦ l
    ]
