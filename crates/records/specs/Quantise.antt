-- A point in units of the quantum. Definitions only.
use Rattle.std.specs.Prelude.{ℤ, Float}
use Rattle.float32.specs.Casts.{short_of, truncated_of}
use Rattle.math.specs.Stored.{values_of}
use Rattle.math.specs.Vec3s.{◌⊖◌, ◌⊗◌}
use Rattle.math.specs.declared.vec3.Vec3.{Vec3}
use Rattle.math.specs.declared.words3.Words3.{Words3}
use Rattle.records.specs.declared.BoundVertex.{BoundVertex}

-- (v - cen) · inverse, as a whole number by the cast given
abbrev pub scaled_by : (Float → ℤ) → Float → Float → Float → ℤ
scaled_by cast cen inverse v = cast ((v ⊖ cen) ⊗ inverse)

-- Rule T2 (01, Tree build: node value of v; bvh.rs, quantise): the cast is rule F8, which wraps.
abbrev pub node_value : Float → Float → Float → ℤ
node_value cen inverse v = scaled_by short_of cen inverse v

-- Rule W1 (01, Walk: quantise the query corners): the cast truncates, and clamps where rule F8 wraps.
abbrev pub query_value : Float → Float → Float → ℤ
query_value cen inverse v = scaled_by truncated_of cen inverse v

-- axis by axis
abbrev pub each_axis : (Float → Float → Float → ℤ) → Vec3 → Vec3 → Vec3 → BoundVertex
each_axis value cen inverse v =
    record { 0 = value cen.x inverse.x v.x; 1 = value cen.y inverse.y v.y; 2 = value cen.z inverse.z v.z }

unfoldable pub quantise_of : Words3 → Vec3 → Vec3 → BoundVertex
quantise_of v cen inverse = each_axis node_value cen inverse (values_of v)

unfoldable pub quantise_query_of : Vec3 → Vec3 → Vec3 → BoundVertex
quantise_query_of v cen inverse = each_axis query_value cen inverse v
