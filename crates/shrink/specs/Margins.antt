-- Rules S1 and S7 (bounds.rs, calculate_verts_shrunk): the margin to begin with, and the first of its halves that passes. Definitions only.
use Rattle.std.specs.Prelude.{ℕ, zero, suc, Bool, cond, Float, Option, Some, None}
use Rattle.std.specs.Float.Ieee.{lt}
use Rattle.float32.specs.Extremes.{min_number_of}
use Rattle.math.specs.declared.vec3.Vec3.{Vec3}
use Rattle.math.specs.Vec3s.{◌⊗◌, tolerance, sub_of, abs_of, scale_of}
use Rattle.math.specs.Transform.{half}

-- Rule S1 (`margin.min(size.x).min(size.y).min(size.z)`): the margin, or half the box's least side, where that is less. A NaN is skipped.
unfoldable pub start_of : Float → Vec3 → Vec3 → Float
start_of margin low high =
    let size = scale_of (abs_of (sub_of high low)) half in
    min_number_of (min_number_of (min_number_of margin size.x) size.y) size.z

-- Rule S7 (`margin *= 0.5`): a margin, halved k times.
abbrev pub halved : ℕ → Float → Float
halved zero m = m
halved (suc k) m = halved k (m ⊗ half)

-- Rule S7 (`while margin > 1e-6`): the first of at most `left` margins that passes the test, each half of the one before.
abbrev pub passing : (Float → Bool) → ℕ → Float → Option Float
passing test zero m = None
passing test (suc left) m = cond (lt tolerance m) (cond (test m) (Some m) (passing test left (m ⊗ half))) None
