-- An i16 as the machine reads it from its bits. Assumes nothing.
use mathlib.Core.Path.{◌≡◌, sym, ap, subst, ◌∙◌}
use mathlib.Core.List.{List}
use Prim.Native.Nat.{ℕ, ◌<◌, ◌^◌}
use lib.IntN.{ℤ}
use lib.Ieee.{Float}
use lib.Signed.{mag}
use lib.Seq.{sets}
use mir.Syntax.{w16, w32}
use mir.Val.{SFits, to_z, of_z}
use mir.Facts.{to_z-of_z, sfits_widen}
use Rattle.base.proofs.ShortLaws.{same_short}
use Rattle.math.specs.declared.vec3.Vec3.{Vec3}
use Rattle.records.specs.Shorts.{short_bytes}
use Rattle.records.specs.declared.BoundVertex.{BoundVertex}

-- What is read is an i32 too.
pub short_read : {v : ℤ} → SFits w16 v → SFits w32 (to_z w16 (of_z w16 v))
short_read f = subst (λ (z : ℤ). SFits w32 z) (sym (to_z-of_z f)) (sfits_widen tt f)

-- The bytes stored of a field that is read are those of the field's number.
pub same_stored : (a : List ℕ) (at : ℕ) (v : ℤ) {b : List ℕ} → mag v < 2 ^ 15
    → b ≡ sets a at (short_bytes (to_z w16 (of_z w16 v))) → b ≡ sets a at (short_bytes v)
same_stored a at v h e = e ∙ ap (λ (z : ℤ). sets a at (short_bytes z)) (same_short v h)

-- A point of three such fields, each the cast of an axis.
abbrev pub cast_by : (Float → ℤ) → Vec3 → BoundVertex
cast_by cast d = record { 0 = cast d.x; 1 = cast d.y; 2 = cast d.z }

abbrev pub seen : ℤ → ℤ → ℤ → BoundVertex
seen x y z = record { 0 = to_z w16 (of_z w16 x); 1 = to_z w16 (of_z w16 y); 2 = to_z w16 (of_z w16 z) }

pub same_vertex : (cast : Float → ℤ) (d : Vec3) (x y z : ℤ) → mag x < 2 ^ 15 → mag y < 2 ^ 15 → mag z < 2 ^ 15
    → x ≡ cast d.x → y ≡ cast d.y → z ≡ cast d.z → seen x y z ≡ cast_by cast d
same_vertex cast d x y z hx hy hz ex ey ez =
    let rx = same_short x hx in
    let ry = same_short y hy in
    let rz = same_short z hz in
    cc
