-- The box of a polygon by the floats of its vertices, in two lanes of four. Definitions only.
use Rattle.std.specs.Prelude.{ℕ, ◌+◌, ◌*◌, ◌%◌, Bool, cond, ◌||◌, List, get_or, Float}
use Rattle.std.specs.Float.{binary32, nan}
use Rattle.std.specs.Float.Ieee.{of_bits, is_nan, neg}
use Rattle.float32.specs.Extremes.{vmin_of, vmax_of}
use Rattle.math.specs.Vec3s.{◌⊕◌, add_of, vadd_of, vmin3_of, vmax3_of}
use Rattle.math.specs.declared.vec3.Vec3.{Vec3}
use Rattle.float_boxes.specs.declared.FloatBox.{FloatBox}
use Rattle.float_boxes.specs.declared.Floats4.{Floats4}
use Rattle.float_boxes.specs.declared.Vertices4.{Vertices4}

-- Vertex i and the float behind it; a NaN for what is not there.
unfoldable pub four_floats : List Float → ℕ → Floats4
four_floats fs i =
    record {
      vertex = record { x = get_or fs (3 * i) nan; y = get_or fs (3 * i + 1) nan; z = get_or fs (3 * i + 2) nan };
      next = get_or fs (3 * i + 3) nan;
    }

abbrev pub vertices_at : List Float → ℕ → ℕ → ℕ → ℕ → Vertices4
vertices_at fs i j k l = record { a = four_floats fs i; b = four_floats fs j; c = four_floats fs k; d = four_floats fs l }

-- a NaN among the eight
unfoldable pub nan_in : Floats4 → Floats4 → Bool
nan_in a b =
    ((is_nan a.vertex.x || is_nan b.vertex.x) || (is_nan a.vertex.y || is_nan b.vertex.y))
    || ((is_nan a.vertex.z || is_nan b.vertex.z) || (is_nan a.next || is_nan b.next))

-- Lane by lane: rule V7's extremes, rule V1's sum and rule V5's with one float.
unfoldable pub lesser_of : Floats4 → Floats4 → Floats4
lesser_of a b = record { vertex = vmin3_of a.vertex b.vertex; next = vmin_of a.next b.next }

unfoldable pub greater_of : Floats4 → Floats4 → Floats4
greater_of a b = record { vertex = vmax3_of a.vertex b.vertex; next = vmax_of a.next b.next }

unfoldable pub plus_of : Floats4 → Floats4 → Floats4
plus_of a b = record { vertex = add_of a.vertex b.vertex; next = a.next ⊕ b.next }

unfoldable pub moved_of : Floats4 → Float → Floats4
moved_of a by = record { vertex = vadd_of a.vertex by; next = a.next ⊕ by }

-- a box from its least corner to its greatest, with what is behind each
unfoldable pub told_box : Floats4 → Floats4 → FloatBox
told_box min max = record { min = min.vertex; spare_min = min.next; max = max.vertex; spare_max = max.next; told = 1 }

-- Rule G9's box of the first three vertices by value, and behind min and max the folds of the floats behind the vertices.
abbrev pub box_of_three : Vertices4 → FloatBox
box_of_three v = told_box (lesser_of (lesser_of v.a v.b) v.c) (greater_of (greater_of v.a v.b) v.c)

-- a NaN among the twelve
abbrev pub nan_in_three : Vertices4 → Bool
nan_in_three v = nan_in v.a v.b || nan_in v.b v.c

-- Rule G9's box of all four by value, its least corner less one float and its greatest plus another.
abbrev pub least_of : Vertices4 → Float → Floats4
least_of v low = moved_of (lesser_of (lesser_of (lesser_of v.a v.b) v.c) v.d) (neg low)

abbrev pub greatest_of : Vertices4 → Float → Floats4
greatest_of v high = moved_of (greater_of (greater_of (greater_of v.a v.b) v.c) v.d) high

-- a NaN among the sums of the four and of the two corners, as there is where one of them has a NaN
abbrev pub nan_in_sums : Vertices4 → Float → Float → Bool
nan_in_sums v low high = nan_in (plus_of (plus_of v.a v.b) (plus_of v.c v.d)) (plus_of (least_of v low) (greatest_of v high))

abbrev plain_zero : Vec3
plain_zero = record { x = of_bits binary32 0; y = of_bits binary32 0; z = of_bits binary32 0 }

-- no box
unfoldable pub not_told : FloatBox
not_told = record { min = plain_zero; spare_min = of_bits binary32 0; max = plain_zero; spare_max = of_bits binary32 0; told = 0 }

-- Rule G9 (01: `bbox` masks triangle vertices by 7FFF hexadecimal), told where none of the twelve floats is a NaN.
abbrev pub triangle_floats : List Float → ℕ → ℕ → ℕ → FloatBox
triangle_floats fs v1 v2 v3 =
    let v = vertices_at fs (v1 % 32768) (v2 % 32768) (v3 % 32768) (v3 % 32768) in
    cond (nan_in_three v) not_told (box_of_three v)

-- Rule G9 (bounds.rs, bbox), of a sphere, a capsule, a cylinder or a box: the numbers as they are, the first again where there are fewer than
-- four; the radius twice, or 0 and -0, which change nothing. Told where no sum is a NaN.
abbrev pub moved_floats : List Float → ℕ → ℕ → ℕ → ℕ → Float → Float → FloatBox
moved_floats fs i j k l low high =
    let v = vertices_at fs i j k l in
    cond (nan_in_sums v low high) not_told (told_box (least_of v low) (greatest_of v high))
