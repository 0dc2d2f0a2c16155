-- The fold of boxes on one axis: off NaN its low end is at most, and its high end at least, each item's. It is finite where the items are,
-- its ends are in order where there is an item, a bound on all coordinates bounds it too, and the fold over more places contains the fold
-- over fewer. By induction on the list, over any box to start from, once for both ends.
use Prim.Native.Nat.{ℕ, ◌<◌}
use native.Mathlib.Omega.{arith}
use mathlib.Core.Path.{◌≡◌, sym, subst}
use mathlib.Core.Logic.{inl, inr}
use mathlib.Core.Bool.{false, not}
use mathlib.Core.List.{List, [], ◌∷◌}
use lib.Dec.{T}
use lib.IntN.{pos}
use lib.Ieee.{Float, fin, of_bits, neg, le, is_nan}
use lib.Ieee.Scale.{finite}
use lib.ListN.{length}
use Rattle.base.specs.Lists.{Among}
use Rattle.base.proofs.ListLaws.{among_head, among_tail, among_cases}
use Rattle.float32.specs.Extremes.{vmin_of, vmax_of}
use Rattle.float32.specs.Signs.{abs_of}
use Rattle.float32.proofs.ExtremeLaws.{vmin_of_both_lem, vmax_of_both_lem, vmin_of_le_lem, vmax_of_ge_lem, vmin_word_value_lem, vmax_word_value_lem}
use Rattle.float32.proofs.OrderLaws.{le_refl, le_trans, finite_no_nan, neg_le}
use Rattle.float32.proofs.SignLaws.{abs_ge_zero, abs_bounds, abs_le}
use Rattle.math.specs.declared.axis.Axis.{Axis}
use Rattle.math.specs.declared.axis.Axis.TheVariants.{X, Y, Z}
use Rattle.entries.specs.declared.boxes.BoxWords.{BoxWords}
use Rattle.entries.specs.Ends.{low, high, Proper, Bounded, Each}
use Rattle.entries.specs.Folding.{start_box, fold_step, fold_from, fold_box}

-- ---- one step, on an axis
step_low : (a : Axis) (acc b : BoxWords) → low a (fold_step acc b) ≡ vmin_of (low a acc) (low a b)
step_low X acc b = vmin_word_value_lem acc.min.x b.min.x
step_low Y acc b = vmin_word_value_lem acc.min.y b.min.y
step_low Z acc b = vmin_word_value_lem acc.min.z b.min.z

step_high : (a : Axis) (acc b : BoxWords) → high a (fold_step acc b) ≡ vmax_of (high a acc) (high a b)
step_high X acc b = vmax_word_value_lem acc.max.x b.max.x
step_high Y acc b = vmax_word_value_lem acc.max.y b.max.y
step_high Z acc b = vmax_word_value_lem acc.max.z b.max.z

abbrev Number : Float → Type 0
Number x = T (not (is_nan x))

-- ---- either end of the fold: `Beyond` is at most for the low end, and at least for the high one
record Outward (end : BoxWords → Float) (Beyond : Float → Float → Type 0) : Type 1 where
  either : (P : Float → Type 0) (acc b : BoxWords) → P (end acc) → P (end b) → P (end (fold_step acc b))
  beyond : (acc b : BoxWords) → Number (end acc) → Number (end b) → Beyond (end (fold_step acc b)) (end acc) × Beyond (end (fold_step acc b)) (end b)
  itself : (x : Float) → Number x → Beyond x x
  trans : (x y z : Float) → Beyond x y → Beyond y z → Beyond x z

outward_low : (a : Axis) → Outward (low a) (λ x y. T (le x y))
outward_low a =
    record {
      either = λ P acc b h k. subst P (sym (step_low a acc b)) (vmin_of_both_lem P (low a acc) (low a b) h k);
      beyond = λ acc b n m. rw (step_low a acc b) (vmin_of_le_lem (low a acc) (low a b) n m);
      itself = le_refl;
      trans = le_trans;
    }

outward_high : (a : Axis) → Outward (high a) (λ x y. T (le y x))
outward_high a =
    record {
      either = λ P acc b h k. subst P (sym (step_high a acc b)) (vmax_of_both_lem P (high a acc) (high a b) h k);
      beyond = λ acc b n m. rw (step_high a acc b) (vmax_of_ge_lem (high a acc) (high a b) n m);
      itself = le_refl;
      trans = λ x y z h k. le_trans z y x k h;
    }

module _ (at : ℕ → BoxWords) {end : BoxWords → Float} {Beyond : Float → Float → Type 0} (o : Outward end Beyond) where
  -- what holds of the start and of each item holds of the fold
  keeps : (P : Float → Type 0) (acc : BoxWords) (ps : List ℕ) → P (end acc) → ((p : ℕ) → Among p ps → P (end (at p))) → P (end (fold_from at acc ps))
  keeps P acc [] h k = h
  keeps P acc (p ∷ ps) h k =
      keeps P (fold_step acc (at p)) ps (o.either P acc (at p) h (k p (among_head p ps))) (λ q m. k q (among_tail q p ps m))

  -- the fold is beyond the start and each item
  past_start : (acc : BoxWords) (ps : List ℕ) → Number (end acc) → ((p : ℕ) → Among p ps → Number (end (at p))) → Beyond (end (fold_from at acc ps)) (end acc)
  past_start acc [] n k = o.itself (end acc) n
  past_start acc (p ∷ ps) n k =
      let acc' = fold_step acc (at p) in
      let m = k p (among_head p ps) in
      let rest = past_start acc' ps (o.either Number acc (at p) n m) (λ q l. k q (among_tail q p ps l)) in
      o.trans (end (fold_from at acc' ps)) (end acc') (end acc) rest (o.beyond acc (at p) n m).0

  past_each : (acc : BoxWords) (ps : List ℕ) → Number (end acc) → ((p : ℕ) → Among p ps → Number (end (at p)))
      → (p : ℕ) → Among p ps → Beyond (end (fold_from at acc ps)) (end (at p))
  past_each acc [] n k p m = absurd (omega arith)
  past_each acc (q ∷ ps) n k p m =
      let acc' = fold_step acc (at q) in
      let i = k q (among_head q ps) in
      let n' = o.either Number acc (at q) n i in
      let k' : (r : ℕ) → Among r ps → Number (end (at r)) = λ r l. k r (among_tail r q ps l) in
      elim (among_cases p q ps m) [
        | inl e ↦
            subst (λ (r : ℕ). Beyond (end (fold_from at acc' ps)) (end (at r))) e
            (o.trans (end (fold_from at acc' ps)) (end acc') (end (at q)) (past_start acc' ps n' k') (o.beyond acc (at q) n i).1)
        | inr l ↦ past_each acc' ps n' k' p l
      ]

-- ---- the start is finite
start_low : (a : Axis) → T (finite (low a start_box))
unfolding of_bits
start_low X = tt
start_low Y = tt
start_low Z = tt

start_high : (a : Axis) → T (finite (high a start_box))
unfolding of_bits
start_high X = tt
start_high Y = tt
start_high Z = tt

-- f32::MIN ≤ 0 ≤ f32::MAX
start_apart : (a : Axis) → T (le (high a start_box) (neg (fin false 0 (pos 0)))) × T (le (neg (fin false 0 (pos 0))) (low a start_box))
unfolding of_bits neg le
start_apart X = (tt, tt)
start_apart Y = (tt, tt)
start_apart Z = (tt, tt)

start_around : (a : Axis) (m : Float) → T (le (fin false 0 (pos 0)) m) → T (le (neg m) (low a start_box)) × T (le (high a start_box) m)
start_around a m h =
    let z = fin false 0 (pos 0) in (
      le_trans (neg m) (neg z) (low a start_box) (neg_le z m h) (start_apart a).1,
      le_trans (high a start_box) (neg z) m (start_apart a).0 (le_trans (neg z) z m (unfold le neg in tt) h),
    )

-- ---- the laws of `fold_box`
module _ (at : ℕ → BoxWords) (a : Axis) (ps : List ℕ) where
  pub fold_low_below : Each at (λ b. Number (low a b)) ps → (p : ℕ) → Among p ps → T (le (low a (fold_box at ps)) (low a (at p)))
  unfolding fold_box
  fold_low_below k p m = past_each at (outward_low a) start_box ps (finite_no_nan (low a start_box) (start_low a)) k p m

  pub fold_high_above : Each at (λ b. Number (high a b)) ps → (p : ℕ) → Among p ps → T (le (high a (at p)) (high a (fold_box at ps)))
  unfolding fold_box
  fold_high_above k p m = past_each at (outward_high a) start_box ps (finite_no_nan (high a start_box) (start_high a)) k p m

  -- what holds of the start and of each item
  pub fold_low_keeps : (P : Float → Type 0) → P (low a start_box) → Each at (λ b. P (low a b)) ps → P (low a (fold_box at ps))
  unfolding fold_box
  fold_low_keeps P h k = keeps at (outward_low a) P start_box ps h k

  pub fold_high_keeps : (P : Float → Type 0) → P (high a start_box) → Each at (λ b. P (high a b)) ps → P (high a (fold_box at ps))
  unfolding fold_box
  fold_high_keeps P h k = keeps at (outward_high a) P start_box ps h k

  pub fold_low_start : Each at (λ b. Number (low a b)) ps → T (le (low a (fold_box at ps)) (low a start_box))
  unfolding fold_box
  fold_low_start k = past_start at (outward_low a) start_box ps (finite_no_nan (low a start_box) (start_low a)) k

  pub fold_high_start : Each at (λ b. Number (high a b)) ps → T (le (high a start_box) (high a (fold_box at ps)))
  unfolding fold_box
  fold_high_start k = past_start at (outward_high a) start_box ps (finite_no_nan (high a start_box) (start_high a)) k

pub some_place : (ps : List ℕ) → 0 < length ps → (p : ℕ) × Among p ps
some_place [] h = absurd (omega arith)
some_place (p ∷ ps) h = (p, among_head p ps)

module _ (at : ℕ → BoxWords) (a : Axis) (ps : List ℕ) (each : Each at (Proper a) ps) where
  low_numbers : Each at (λ b. Number (low a b)) ps
  low_numbers p m = finite_no_nan (low a (at p)) (each p m).low_finite

  high_numbers : Each at (λ b. Number (high a b)) ps
  high_numbers p m = finite_no_nan (high a (at p)) (each p m).high_finite

  -- each item lies in the fold
  pub fold_below_each : (p : ℕ) → Among p ps → T (le (low a (fold_box at ps)) (low a (at p)))
  fold_below_each = fold_low_below at a ps low_numbers

  pub fold_above_each : (p : ℕ) → Among p ps → T (le (high a (at p)) (high a (fold_box at ps)))
  fold_above_each = fold_high_above at a ps high_numbers

  pub fold_proper : 0 < length ps → Proper a (fold_box at ps)
  fold_proper n =
      let s = some_place ps n in
      let p = s.0 in
      record {
        low_finite = fold_low_keeps at a ps (λ x. T (finite x)) (start_low a) (λ q m. (each q m).low_finite);
        high_finite = fold_high_keeps at a ps (λ x. T (finite x)) (start_high a) (λ q m. (each q m).high_finite);
        in_order =
            le_trans (low a (fold_box at ps)) (low a (at p)) (high a (fold_box at ps)) (fold_below_each p s.1)
            (le_trans (low a (at p)) (high a (at p)) (high a (fold_box at ps)) (each p s.1).in_order (fold_above_each p s.1));
      }

  -- a bound on every item bounds the fold
  pub fold_bounded : (m : Float) → Each at (Bounded m a) ps → 0 < length ps → Bounded m a (fold_box at ps)
  fold_bounded m k n =
      let s = some_place ps n in
      let p = s.0 in
      let lo = low a (fold_box at ps) in
      let hi = high a (fold_box at ps) in
      let some = abs_ge_zero (low a (at p)) (low_numbers p s.1) in
      let z = start_around a m (le_trans (fin false 0 (pos 0)) (abs_of (low a (at p))) m some (k p s.1).low_size) in
      let l = abs_bounds (low a (at p)) m (k p s.1).low_size in
      let h = abs_bounds (high a (at p)) m (k p s.1).high_size in
      record {
        low_size =
            abs_le lo m (fold_low_keeps at a ps (λ x. T (le (neg m) x)) z.0 (λ q i. (abs_bounds (low a (at q)) m (k q i).low_size).0))
            (le_trans lo (low a (at p)) m (fold_below_each p s.1) l.1);
        high_size =
            abs_le hi m (le_trans (neg m) (high a (at p)) hi h.0 (fold_above_each p s.1))
            (fold_high_keeps at a ps (λ x. T (le x m)) z.1 (λ q i. (abs_bounds (high a (at q)) m (k q i).high_size).1));
      }

  -- the fold over some of the places lies in the fold over all
  pub fold_contains : (qs : List ℕ) → ((p : ℕ) → Among p qs → Among p ps)
      → T (le (low a (fold_box at ps)) (low a (fold_box at qs))) × T (le (high a (fold_box at qs)) (high a (fold_box at ps)))
  fold_contains qs sub = (
    fold_low_keeps at a qs (λ x. T (le (low a (fold_box at ps)) x)) (fold_low_start at a ps low_numbers) (λ q m. fold_below_each q (sub q m)),
    fold_high_keeps at a qs (λ x. T (le x (high a (fold_box at ps)))) (fold_high_start at a ps high_numbers) (λ q m. fold_above_each q (sub q m)),
  )
