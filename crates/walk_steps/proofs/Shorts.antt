-- An i16 as the machine reads it from its bits, and as a number of things. Assumes nothing.
use mathlib.Core.Path.{◌≡◌, refl, sym, ap, ap₂, subst, ◌∙◌}
use mathlib.Core.Bool.{Bool, true, false, ◌&&◌}
use Prim.Native.Nat.{ℕ, ◌<◌}
use native.Mathlib.Omega.{arith}
use lib.Dec.{T}
use lib.IntN.{ℤ, pos, negsuc, nat_abs}
use lib.Signed.{mag, le_z, lt_z, non_neg}
use borrow.Author.Tests.{ltb-true}
use mir.Syntax.{w16, w64}
use mir.Val.{Fits, SFits, to_z, of_z}
use mir.Facts.{to_z-of_z}
use Rattle.walk_steps.specs.Boxes.{overlap}
use Rattle.walk_steps.specs.Refusals.{whole}

abbrev pub seen : ℤ → ℤ
seen v = to_z w16 (of_z w16 v)

pub same_le : {x y : ℤ} → SFits w16 x → SFits w16 y → le_z (seen x) (seen y) ≡ le_z x y
same_le h k = ap₂ le_z (to_z-of_z h) (to_z-of_z k)

-- a bound on the size is that it fits
pub fitting : {x : ℤ} → mag x < 32768 → SFits w16 x
fitting h = record { sfits = h }

pub same : (x : ℤ) → mag x < 32768 → seen x ≡ x
same x h = to_z-of_z (fitting h)

pub same_overlap : {r : Bool} (a b c d : ℤ) → mag a < 32768 → mag b < 32768 → mag c < 32768 → mag d < 32768
    → r ≡ overlap le_z (seen a) (seen b) (seen c) (seen d) → r ≡ overlap le_z a b c d
same_overlap a b c d ha hb hc hd e = e ∙ ap₂ ◌&&◌ (ap₂ le_z (same a ha) (same d hd)) (ap₂ le_z (same c hc) (same b hb))

-- what a test of fields says is so of them
pub below_zero : {b : Bool} (x : ℤ) → mag x < 32768 → lt_z (seen x) (pos 0) ≡ b → lt_z x (pos 0) ≡ b
below_zero x h e = ap (λ (z : ℤ). lt_z z (pos 0)) (sym (same x h)) ∙ e

pub below : {b : Bool} (x y : ℤ) → mag x < 32768 → mag y < 32768 → lt_z (seen x) (seen y) ≡ b → lt_z x y ≡ b
below x y h k e = ap₂ lt_z (sym (same x h)) (sym (same y k)) ∙ e

-- v, which is not below 0, is a usize
pub cast_whole : (v : ℤ) → SFits w16 v → lt_z v (pos 0) ≡ false → T (non_neg v) × Fits w64 (nat_abs v)
cast_whole (pos n) h e = (tt, record { fits = wide n h.sfits })
  where
    wide : (n : ℕ) → n < 32768 → n < 18446744073709551616
    wide n h = omega arith
cast_whole (negsuc n) h e = absurd (subst T e tt)

pub whole_below : (v : ℤ) → lt_z v (pos 0) ≡ true → whole v ≡ 0
whole_below (pos n) e = omega (arith, ltb-true n 0 e)
whole_below (negsuc n) e = refl

pub whole_is : (v : ℤ) → SFits w16 v → lt_z v (pos 0) ≡ false → (nat_abs v ≡ whole v) × (nat_abs v < 32768)
whole_is (pos n) h e = (refl, h.sfits)
whole_is (negsuc n) h e = absurd (subst T e tt)
