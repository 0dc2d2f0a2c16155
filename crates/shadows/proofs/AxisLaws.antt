-- What the source's rounded test says on one axis: b is at least as far as a, neither is a NaN, a is not the infinity at the far end and b not the
-- one at the near end. So the test is transitive, over every float.
use mathlib.Core.Path.{◌≡◌, refl, ap, ◌∙◌}
use mathlib.Core.Logic.{inl, inr}
use mathlib.Core.Bool.{Bool, true, false, not, ◌&&◌}
use lib.Dec.{T}
use lib.IntN.{pos}
use lib.Ieee.{Float, nan, inf, fin, Format, binary32, neg, add, sub, lt, le, fits, of_bits}
use lib.Ieee.Fits.{add-fits, and_l, and_r, and_i}
use lib.Ieee.Scale.{finite}
use Rattle.base.proofs.Truth.{T_ext}
use Rattle.float32.proofs.OrderLaws.{le_or_lt, le_trans, lt_le_trans, lt→not_le, neg_le, neg_lt, finite_no_nan}
use Rattle.shadows.specs.Shadows.{sign, reaches}
use Rattle.shadows.specs.Ends.{is_inf, ahead, order_reaches}
use Rattle.shadows.proofs.Differences.{sub_ge_zero, sub_le_zero, sub_lt_zero, sub_gt_zero, mul_one_self, mul_minus_one}

abbrev naught : Float
naught = fin false 0 (pos 0)

minus_naught : T (le naught (fin true 0 (pos 0)))
unfolding le
minus_naught = tt

naught_minus : T (le (fin true 0 (pos 0)) naught)
unfolding le
naught_minus = tt

-- ---- two finite values

module _ (f : Format) (a b : Float) (p : T (finite a)) (q : T (finite b)) (A : T (fits f a)) (B : T (fits f b)) where
  rising_finite : le naught (sub f b a) ≡ le a b
  rising_finite = T_ext (le naught (sub f b a)) (le a b) to (λ h. sub_ge_zero f b a q p h)
    where
      to : T (le naught (sub f b a)) → T (le a b)
      to h = elim (le_or_lt a b (finite_no_nan a p) (finite_no_nan b q))
          [ inl k ↦ k | inr k ↦ absurd (lt→not_le (sub f b a) naught (sub_lt_zero f b a q p B A k) h) ]

  falling_finite : le naught (neg (sub f b a)) ≡ le b a
  unfolding neg
  falling_finite = T_ext (le naught (neg (sub f b a))) (le b a) to from
    where
      d : Float
      d = sub f b a

      to : T (le naught (neg d)) → T (le b a)
      to h =
          elim (le_or_lt b a (finite_no_nan b q) (finite_no_nan a p)) [
            | inl k ↦ k
            | inr k ↦ absurd (lt→not_le (neg d) naught (lt_le_trans (neg d) (neg naught) naught (neg_lt naught d (sub_gt_zero f b a q p B A k)) naught_minus) h)
          ]

      from : T (le b a) → T (le naught (neg d))
      from h = le_trans naught (neg naught) (neg d) minus_naught (neg_le d naught (sub_le_zero f b a q p h))

-- ---- every value

rising_all : (f : Format) (a b : Float) → T (fits f a) → T (fits f b) → le naught (sub f b a) ≡ order_reaches false a b
unfolding sub add neg le lt order_reaches
rising_all f nan nan A B = refl
rising_all f nan (inf true) A B = refl
rising_all f nan (inf false) A B = refl
rising_all f nan (fin t n d) A B = refl
rising_all f (inf true) nan A B = refl
rising_all f (inf true) (inf true) A B = refl
rising_all f (inf true) (inf false) A B = refl
rising_all f (inf true) (fin t n d) A B = refl
rising_all f (inf false) nan A B = refl
rising_all f (inf false) (inf true) A B = refl
rising_all f (inf false) (inf false) A B = refl
rising_all f (inf false) (fin t n d) A B = refl
rising_all f (fin s m e) nan A B = refl
rising_all f (fin s m e) (inf true) A B = refl
rising_all f (fin s m e) (inf false) A B = refl
rising_all f (fin s m e) (fin t n d) A B = rising_finite f (fin s m e) (fin t n d) tt tt A B

falling_all : (f : Format) (a b : Float) → T (fits f a) → T (fits f b) → le naught (neg (sub f b a)) ≡ order_reaches true a b
unfolding sub add neg le lt order_reaches
falling_all f nan nan A B = refl
falling_all f nan (inf true) A B = refl
falling_all f nan (inf false) A B = refl
falling_all f nan (fin t n d) A B = refl
falling_all f (inf true) nan A B = refl
falling_all f (inf true) (inf true) A B = refl
falling_all f (inf true) (inf false) A B = refl
falling_all f (inf true) (fin t n d) A B = refl
falling_all f (inf false) nan A B = refl
falling_all f (inf false) (inf true) A B = refl
falling_all f (inf false) (inf false) A B = refl
falling_all f (inf false) (fin t n d) A B = refl
falling_all f (fin s m e) nan A B = refl
falling_all f (fin s m e) (inf true) A B = refl
falling_all f (fin s m e) (inf false) A B = refl
falling_all f (fin s m e) (fin t n d) A B = falling_finite f (fin s m e) (fin t n d) tt tt A B

sub_fits : (f : Format) (x y : Float) → T (fits f (sub f x y))
unfolding sub
sub_fits f x y = add-fits f x (neg y)

-- Rule O1 on one axis: the rounded test is one of order.
pub reaches_by_order : (falls : Bool) (a b : Float) → T (fits binary32 a) → T (fits binary32 b) → reaches (sign falls) a b ≡ order_reaches falls a b
unfolding reaches of_bits neg
reaches_by_order false a b A B = ap (le naught) (mul_one_self binary32 (sub binary32 b a) (sub_fits binary32 b a)) ∙ rising_all binary32 a b A B
reaches_by_order true a b A B = ap (le naught) (mul_minus_one binary32 (sub binary32 b a) (sub_fits binary32 b a)) ∙ falling_all binary32 a b A B

-- ---- transitive

pub ahead_trans : (falls : Bool) (a b c : Float) → T (ahead falls a b) → T (ahead falls b c) → T (ahead falls a c)
unfolding ahead
ahead_trans false a b c h k = le_trans a b c h k
ahead_trans true a b c h k = le_trans c b a k h

order_trans : (falls : Bool) (a b c : Float) → T (order_reaches falls a b) → T (order_reaches falls b c) → T (order_reaches falls a c)
unfolding order_reaches
order_trans falls a b c h k =
    let a_in = not (is_inf falls a) in
    let b-in = not (is_inf (not falls) b) in
    let c-in = not (is_inf (not falls) c) in
    let rest = and_r (not (is_inf falls b)) (c-in && ahead falls b c) k in
    and_i a_in (c-in && ahead falls a c) (and_l a_in (b-in && ahead falls a b) h)
    (and_i c-in (ahead falls a c) (and_l c-in (ahead falls b c) rest)
    (ahead_trans falls a b c (and_r b-in (ahead falls a b) (and_r a_in (b-in && ahead falls a b) h)) (and_r c-in (ahead falls b c) rest)))

pub reaches_trans : (falls : Bool) (a b c : Float) → T (fits binary32 a) → T (fits binary32 b) → T (fits binary32 c)
    → T (reaches (sign falls) a b) → T (reaches (sign falls) b c) → T (reaches (sign falls) a c)
reaches_trans falls a b c A B C h k =
    rw (reaches_by_order falls a c A C) (order_trans falls a b c (rw (reaches_by_order falls a b A B) at h) (rw (reaches_by_order falls b c B C) at k))
