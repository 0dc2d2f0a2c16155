-- Rule S8 (bounds.rs, calculate_verts_shrunk): after a pass every vertex is brought into the box, less the margin or 0.025. Definitions only.
use Rattle.std.specs.Prelude.{ℕ, List, Float}
use Rattle.std.specs.Float.{binary32}
use Rattle.std.specs.Float.Ieee.{of_bits, neg}
use Rattle.corners.specs.Corners.{in_turn}
use Rattle.float32.specs.Extremes.{max_number_of}
use Rattle.math.specs.declared.vec3.Vec3.{Vec3}
use Rattle.math.specs.declared.aabb.Aabb.{Aabb}
use Rattle.math.specs.Vec3s.{sub_of, vadd_of, vmin3_of, vmax3_of}
use Rattle.points.specs.Points.{vertex_at, words_of}

-- 0.025, the least that is taken off a side
abbrev pub least_inset : Float
least_inset = of_bits binary32 0x3ccc_cccd

-- Rule S8 (shrunk_min, shrunk_max): the box about `center`, less the margin on every side
unfoldable pub inset_of : Aabb → Vec3 → Float → Aabb
inset_of box center margin =
    let k = max_number_of margin least_inset in
    record { min = sub_of (vadd_of box.min k) center; max = sub_of (vadd_of box.max (neg k)) center }

-- Rule S8 (`vmax(vmin(*v, shrunk_max), shrunk_min)`): the low side wins where they cross, and a NaN coordinate becomes the high side.
abbrev pub clamp_of : Aabb → Vec3 → Vec3
clamp_of box s = vmax3_of (vmin3_of s box.max) box.min

-- Rule S8: v vertices, clamped.
unfoldable pub clamped_words : Aabb → List ℕ → ℕ → List ℕ
clamped_words box ws v = in_turn v (λ i. words_of (clamp_of box (vertex_at ws i)))
