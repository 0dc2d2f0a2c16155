-- The eight tests of a record: the lower corner turned, so that all are of one kind, and the two that every number passes.
use mathlib.Core.Path.{◌≡◌, refl, ap, ap₂, ◌∙◌}
use mathlib.Core.Bool.{Bool, true, false, ◌&&◌}
use Prim.Native.Nat.{suc, ◌-◌, ◌<◌}
use native.Mathlib.Omega.{arith}
use lib.IntN.{ℤ, pos, negsuc}
use lib.Signed.{mag, le_z}
use borrow.Author.Tests.{le-leb}
use mir.Syntax.{w16}
use mir.Val.{to_z, of_z}
use mir.Facts.{to_z_pos, to_z-neg}
use Rattle.walk_steps.specs.Steps.Lanes.{flip, plain_of, Topped}
use Rattle.walk_steps.specs.declared.boxes.Query.{Query}
use Rattle.walk_steps.proofs.Shorts.{seen, same}

-- the bits turned are −1 − v
pub flip_bits : (v : ℤ) → mag v < 32768 → to_z w16 (65535 - of_z w16 v) ≡ flip v
flip_bits (pos n) h =
    let e : 65535 - n ≡ 65536 - suc n = omega arith in
    ap (to_z w16) e ∙ to_z-neg w16 n h
flip_bits (negsuc n) h =
    let e : 65535 - (65536 - suc n) ≡ n = omega arith in
    ap (to_z w16) e ∙ to_z_pos w16 h

flip_mag : (v : ℤ) → mag v < 32768 → mag (flip v) < 32768
flip_mag (pos n) h = h
flip_mag (negsuc n) h = h

-- turned, and seen again
pub seen_flip : (v : ℤ) {r : ℤ} → mag v < 32768 → r ≡ flip (seen v) → seen r ≡ flip v
seen_flip v h e = ap seen (e ∙ ap flip (same v h)) ∙ same (flip v) (flip_mag v h)

pub flip_flip : (v : ℤ) → flip (flip v) ≡ v
flip_flip (pos n) = refl
flip_flip (negsuc n) = refl

-- it turns the order round
pub flip_le : (a b : ℤ) → le_z (flip a) b ≡ le_z (flip b) a
flip_le (pos m) (pos n) = refl
flip_le (pos m) (negsuc n) = refl
flip_le (negsuc m) (pos n) = refl
flip_le (negsuc m) (negsuc n) = refl

-- ---- one test each

-- the record's min against the upper corner
pub below_high : (min high : ℤ) → mag min < 32768 → mag high < 32768 → le_z (seen min) (seen high) ≡ le_z min high
below_high min high hm hh = ap₂ le_z (same min hm) (same high hh)

-- its max, turned, against the lower corner, turned
pub below_low : (max low : ℤ) → mag max < 32768 → mag low < 32768 → le_z (to_z w16 (65535 - of_z w16 max)) (seen low) ≡ le_z (flip low) max
below_low max low hm hl = ap₂ le_z (flip_bits max hm) (same low hl) ∙ flip_le max low

-- no number is above the top
pub below_top : (v top : ℤ) → mag v < 32768 → mag top < 32768 → top ≡ pos 32767 → le_z (seen v) (seen top) ≡ true
below_top v top h k e = ap₂ le_z (same v h) (same top k ∙ e) ∙ go v h
  where
    go : (v : ℤ) → mag v < 32768 → le_z v (pos 32767) ≡ true
    go (pos n) h = le-leb n 32767 (omega arith)
    go (negsuc n) h = refl

-- ---- all of them, in the order of the code and axis by axis
ordered : (a b c x y z : Bool) → (((a && b) && (c && x)) && ((y && z) && (true && true))) ≡ ((x && a) && ((y && b) && (z && c)))
ordered true true true true true true = refl
ordered true true true true true false = refl
ordered true true true true false z = refl
ordered true true true false y z = refl
ordered true true false true true true = refl
ordered true true false true true false = refl
ordered true true false true false z = refl
ordered true true false false y z = refl
ordered true false c true true z = refl
ordered true false c true false z = refl
ordered true false c false y z = refl
ordered false b c true y z = refl
ordered false b c false y z = refl

pub all_eight : {a b c x y z s t a' b' c' x' y' z' : Bool} → a ≡ a' → b ≡ b' → c ≡ c' → x ≡ x' → y ≡ y' → z ≡ z' → s ≡ true → t ≡ true
    → (((a && b) && (c && x)) && ((y && z) && (s && t))) ≡ ((x' && a') && ((y' && b') && (z' && c')))
all_eight {a} {b} {c} {x} {y} {z} {s} {t} {a'} {b'} {c'} {x'} {y'} {z'} ea eb ec ex ey ez es et =
    ap₂ ◌&&◌ (ap₂ ◌&&◌ (ap₂ ◌&&◌ ea eb) (ap₂ ◌&&◌ ec ex)) (ap₂ ◌&&◌ (ap₂ ◌&&◌ ey ez) (ap₂ ◌&&◌ es et)) ∙ ordered a' b' c' x' y' z'

-- ---- the lanes of a query stand for it
pub lanes_are : (q : Query) (x y z : ℤ) → x ≡ flip q.min.0 → y ≡ flip q.min.1 → z ≡ flip q.min.2
    → (plain_of (record { high = q.max; low = record { 0 = x; 1 = y; 2 = z }; first = pos 32767; second = pos 32767 }) ≡ q)
    × Topped (record { high = q.max; low = record { 0 = x; 1 = y; 2 = z }; first = pos 32767; second = pos 32767 })
unfolding plain_of
lanes_are q x y z ex ey ez = (
  λ i. record {
    min =
        record {
          0 = (ap flip ex ∙ flip_flip q.min.0) i;
          1 = (ap flip ey ∙ flip_flip q.min.1) i;
          2 = (ap flip ez ∙ flip_flip q.min.2) i;
        };
    max = q.max;
  },
  record { first_top = refl; second_top = refl },
)
