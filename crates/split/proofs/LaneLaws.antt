-- What the lanes of a place hold: the centre along each axis, and x with the other sign.
use Prim.Native.Nat.{ℕ, ◌+◌, ◌*◌, ◌≤◌, ◌<◌}
use native.Mathlib.Decide.{dec_lt}
use native.Mathlib.Omega.{arith}
use mathlib.Core.List.{List}
use mathlib.Core.Path.{◌≡◌, sym, subst, ap, ap₂, ◌∙◌}
use lib.ListN.{length, get_or}
use lib.Dec.{T}
use lib.Ieee.{Float, nan, lt, neg}
use Rattle.base.proofs.Truth.{T_ext}
use Rattle.float32.proofs.OrderLaws.{neg_neg, neg_lt}
use Rattle.math.specs.declared.axis.Axis.TheVariants.{X, Y, Z}
use Rattle.entries.specs.declared.average.Lanes.{Lanes}
use Rattle.entries.specs.Kept.{Kept}
use Rattle.split.specs.Steps.Groups.{centre_at}
use Rattle.split.proofs.Parting.{centre_along}

module _ (ws : List ℕ) (cs : List Float) (k : Kept ws cs) (p : ℕ) (h : 7 * p + 7 ≤ length ws) where
  -- the lane of an axis holds the centre there
  pub kept_lane : (step : ℕ) → step < 3 → get_or cs (4 * p + step) nan ≡ centre_at ws step p
  kept_lane step l = go (dec_lt step 1) (dec_lt step 2)
    where
      go : Dec (step < 1) → Dec (step < 2) → get_or cs (4 * p + step) nan ≡ centre_at ws step p
      go (yes a) b =
          let e : 0 ≡ step = omega arith in
          let z : 4 * p + 0 ≡ 4 * p = omega arith in
          subst (λ (n : ℕ). get_or cs (4 * p + n) nan ≡ centre_at ws n p) e
          (ap (λ (n : ℕ). get_or cs n nan) z ∙ ap (λ (f : Lanes). f.x) (k.lanes p h) ∙ sym (centre_along ws p X))
      go (no a) (yes b) =
          let e : 1 ≡ step = omega arith in
          subst (λ (n : ℕ). get_or cs (4 * p + n) nan ≡ centre_at ws n p) e (ap (λ (f : Lanes). f.y) (k.lanes p h) ∙ sym (centre_along ws p Y))
      go (no a) (no b) =
          let e : 2 ≡ step = omega arith in
          subst (λ (n : ℕ). get_or cs (4 * p + n) nan ≡ centre_at ws n p) e (ap (λ (f : Lanes). f.z) (k.lanes p h) ∙ sym (centre_along ws p Z))

-- the fourth lane, below with the other sign, tells what is above
pub lane_above : (x y : Float) → lt (neg x) (neg y) ≡ lt y x
lane_above x y =
    T_ext (lt (neg x) (neg y)) (lt y x) (λ h. subst T (ap₂ lt (neg_neg y) (neg_neg x)) (neg_lt (neg x) (neg y) h)) (λ h. neg_lt y x h)
