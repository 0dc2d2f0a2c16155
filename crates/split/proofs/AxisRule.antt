-- Rule T5's axis, by whole numbers, is the source's, by floats: the distance of a count from n / 2 is exact in binary32, so the source's tests `<=`
-- compare what `offset` says.
use Prim.Native.Nat.{ℕ, ◌≤◌, ◌<◌}
use native.Mathlib.Nat.{zero-lt-suc}
use native.Mathlib.Omega.{arith}
use mathlib.Core.Bool.{false, cond, ◌&&◌}
use mathlib.Core.List.{List}
use mathlib.Core.Path.{◌≡◌, sym}
use lib.Dec.{leb}
use lib.ListN.{length}
use lib.Ieee.{Float, le}
use lib.Ieee.Exact.{HasValue}
use Rattle.float32.specs.Counts.{of_count}
use Rattle.float32.specs.Signs.{abs_of}
use Rattle.float_laws.proofs.CountLaws.{two, of_count_value, half_value, distance_value, le_is}
use Rattle.math.specs.declared.axis.Axis.{Axis}
use Rattle.math.specs.declared.axis.Axis.TheVariants.{X, Y, Z}
use Rattle.math.specs.declared.vec3.Vec3.{Vec3}
use Rattle.math.specs.Vec3s.{◌⊖◌, ◌⊘◌}
use Rattle.entries.specs.declared.boxes.BoxWords.{BoxWords}
use Rattle.split.specs.Rule.{count_below, offset, nearest_axis, axis_of}
use Rattle.split.proofs.Counting.{count_le}

-- ---- the source (bvh.rs, build): `(items.len() as f32 / 2.0 - c as f32).abs()`, and the choice among three of them
abbrev pub float_offset : ℕ → ℕ → Float
float_offset n c = abs_of ((of_count n ⊘ two) ⊖ of_count c)

abbrev pub float_axis : Float → Float → Float → Axis
float_axis dx dy dz = cond (le dx dy && le dx dz) X (cond (le dy dz) Y Z)

-- ---- it is exact: half of `offset`
pub float_offset_exact : (n c : ℕ) → n < 65536 → c ≤ n → HasValue (float_offset n c) false (offset n c) 2
float_offset_exact n c h k =
    distance_value (of_count n ⊘ two) (of_count c) n c (omega arith)
    (half_value (of_count n) n (omega arith) (of_count_value n (omega arith)))
    (of_count_value c (omega arith))

-- ---- so the tests agree, and the axis is the same
le_offset : (n c d : ℕ) → n < 65536 → c ≤ n → d ≤ n → le (float_offset n c) (float_offset n d) ≡ leb (offset n c) (offset n d)
le_offset n c d h k l =
    le_is (float_offset n c) (float_offset n d) (offset n c) (offset n d) 2 (zero-lt-suc 1) (float_offset_exact n c h k) (float_offset_exact n d h l)

pub float_axis_is : (n x y z : ℕ) → n < 65536 → x ≤ n → y ≤ n → z ≤ n
    → float_axis (float_offset n x) (float_offset n y) (float_offset n z) ≡ nearest_axis (offset n x) (offset n y) (offset n z)
float_axis_is n x y z h i j k = rw (le_offset n x y h i j, le_offset n x z h i k, le_offset n y z h j k)

pub axis_as_in_source : (at : ℕ → BoxWords) (avg : Vec3) (ps : List ℕ) → length ps < 65536
    → axis_of at avg ps
    ≡ float_axis (float_offset (length ps) (count_below at avg X ps)) (float_offset (length ps) (count_below at avg Y ps))
    (float_offset (length ps) (count_below at avg Z ps))
unfolding axis_of
axis_as_in_source at avg ps h =
    sym (float_axis_is (length ps) (count_below at avg X ps) (count_below at avg Y ps) (count_below at avg Z ps) h
    (count_le at avg X ps) (count_le at avg Y ps) (count_le at avg Z ps))
