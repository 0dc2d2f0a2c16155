-- `clamp_of`: its result lies between its ends, it keeps the order, and it leaves alone what lies between them.
use mathlib.Core.Path.{◌≡◌, refl, sym, subst}
use mathlib.Core.Bool.{Bool, true, false, not, cond}
use lib.Dec.{T}
use lib.Ieee.{Float, lt, le, is_nan}
use Rattle.float32.specs.Casts.{clamp_of}
use Rattle.float32.proofs.OrderLaws.{le_refl, le_trans, le_no_nan, lt→not_le, le→not_lt, not_lt→le}

-- which of the three `clamp_of` gives
data Clamped (lo hi x : Float) : Float → Type 0 where
  at_low : T (lt x lo) → Clamped lo hi x lo
  at_high : T (le lo x) → T (lt hi x) → Clamped lo hi x hi
  inside : T (le lo x) → T (le x hi) → Clamped lo hi x x

clamped : (lo hi x : Float) → T (le lo hi) → T (not (is_nan x)) → Clamped lo hi x (clamp_of lo hi x)
unfolding clamp_of
clamped lo hi x l p = go (lt x lo) (lt hi x) refl refl
  where
    n : T (not (is_nan lo)) × T (not (is_nan hi))
    n = le_no_nan lo hi l

    go : (a b : Bool) → lt x lo ≡ a → lt hi x ≡ b → Clamped lo hi x (cond a lo (cond b hi x))
    go true b h k = at_low (subst T (sym h) tt)
    go false true h k = at_high (not_lt→le x lo p n.0 h) (subst T (sym k) tt)
    go false false h k = inside (not_lt→le x lo p n.0 h) (not_lt→le hi x n.1 p k)

clamped_low : {lo hi x r : Float} → T (le lo hi) → Clamped lo hi x r → T (le lo r)
clamped_low {lo} {hi} l (at_low h) = le_refl lo (le_no_nan lo hi l).0
clamped_low l (at_high h k) = l
clamped_low l (inside h k) = h

clamped_high : {lo hi x r : Float} → T (le lo hi) → Clamped lo hi x r → T (le r hi)
clamped_high l (at_low h) = l
clamped_high {lo} {hi} l (at_high h k) = le_refl hi (le_no_nan lo hi l).1
clamped_high l (inside h k) = k

clamped_mono : {lo hi x y r s : Float} → T (le lo hi) → T (le x y) → Clamped lo hi x r → Clamped lo hi y s → T (le r s)
clamped_mono l h (at_low a) c = clamped_low l c
clamped_mono {lo} {hi} {x} {y} l h (inside a b) (at_low a') = absurd (lt→not_le y lo a' (le_trans lo x y a h))
clamped_mono l h (inside a b) (at_high a' b') = b
clamped_mono l h (inside a b) (inside a' b') = h
clamped_mono {lo} {hi} {x} {y} l h (at_high a b) (at_low a') = absurd (lt→not_le y lo a' (le_trans lo x y a h))
clamped_mono l h (at_high a b) (at_high a' b') = clamped_high l (at_high a b)
clamped_mono {lo} {hi} {x} {y} l h (at_high a b) (inside a' b') = absurd (lt→not_le hi x b (le_trans x y hi h b'))

pub clamp_of_low_lem : (lo hi x : Float) → T (le lo hi) → T (not (is_nan x)) → T (le lo (clamp_of lo hi x))
clamp_of_low_lem lo hi x l p = clamped_low l (clamped lo hi x l p)

pub clamp_of_high_lem : (lo hi x : Float) → T (le lo hi) → T (not (is_nan x)) → T (le (clamp_of lo hi x) hi)
clamp_of_high_lem lo hi x l p = clamped_high l (clamped lo hi x l p)

pub clamp_of_mono_lem : (lo hi x y : Float) → T (le lo hi) → T (le x y) → T (le (clamp_of lo hi x) (clamp_of lo hi y))
clamp_of_mono_lem lo hi x y l h =
    let n = le_no_nan x y h in
    clamped_mono l h (clamped lo hi x l n.0) (clamped lo hi y l n.1)

pub clamp_of_self_lem : (lo hi x : Float) → T (le lo x) → T (le x hi) → clamp_of lo hi x ≡ x
unfolding clamp_of
clamp_of_self_lem lo hi x h k = rw (le→not_lt lo x h, le→not_lt x hi k)
