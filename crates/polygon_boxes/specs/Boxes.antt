-- The box of a polygon (01, Polygons; bounds.rs, bbox). Definitions only.
use Rattle.std.specs.Prelude.{ℕ, ◌+◌, ◌*◌, ◌/◌, ◌%◌, cond, List, ltb, length, get_or, Float}
use Rattle.std.specs.Float.Ieee.{neg}
use Rattle.float32.specs.Casts.{low16bits}
use Rattle.math.specs.Stored.{values_of, bits_of, vmin_words_of, vmax_words_of}
use Rattle.math.specs.Vec3s.{vadd_of, vmin3_of, vmax3_of}
use Rattle.math.specs.declared.vec3.Vec3.{Vec3}
use Rattle.math.specs.declared.words3.Words3.{Words3}
use Rattle.polygon_boxes.specs.declared.PolygonBox.{PolygonBox}
use Rattle.polygon.specs.declared.Polygon.{Polygon}
use Rattle.polygon.specs.declared.Polygon.TheVariants.{Triangle, Sphere, Capsule, Box, Cylinder}

-- Rule G8 (01: a missing vertex is plain zero): vertex i of a list of words, three a vertex.
unfoldable pub vertex_words : List ℕ → ℕ → Words3
vertex_words ws i =
    cond (ltb i (length ws / 3)) (record { x = get_or ws (3 * i) 0; y = get_or ws (3 * i + 1) 0; z = get_or ws (3 * i + 2) 0 })
    (record { x = 0; y = 0; z = 0 })

-- Rule G9 (bounds.rs, bbox): the fold of three or four vertices from the first on; words are copied.
unfoldable pub three_box : Words3 → Words3 → Words3 → PolygonBox
three_box a b c = record { min = vmin_words_of (vmin_words_of a b) c; max = vmax_words_of (vmax_words_of a b) c }

unfoldable pub four_box : Words3 → Words3 → Words3 → Words3 → PolygonBox
four_box a b c d =
    record { min = vmin_words_of (vmin_words_of (vmin_words_of a b) c) d; max = vmax_words_of (vmax_words_of (vmax_words_of a b) c) d }

-- Rule G9 (bounds.rs, bbox): from low less the radius to high plus the radius.
unfoldable pub grown_box : Vec3 → Vec3 → Float → PolygonBox
grown_box low high radius = record { min = bits_of (vadd_of low (neg radius)); max = bits_of (vadd_of high radius) }

unfoldable pub pair_box : Words3 → Words3 → Float → PolygonBox
pair_box a b radius = grown_box (vmin3_of (values_of a) (values_of b)) (vmax3_of (values_of a) (values_of b)) radius

-- Rule G9 (01: `bbox` masks triangle vertices by 7FFF hexadecimal).
abbrev pub triangle_box : List ℕ → ℕ → ℕ → ℕ → PolygonBox
triangle_box ws v1 v2 v3 = three_box (vertex_words ws (v1 % 32768)) (vertex_words ws (v2 % 32768)) (vertex_words ws (v3 % 32768))

-- Rule G9 (bounds.rs, bbox): by the kind; of the others every bit counts.
abbrev pub bbox_of : Polygon → List ℕ → PolygonBox
bbox_of (Triangle area nan v1 v2 v3 e1 e2 e3) ws = triangle_box ws v1 v2 v3
bbox_of (Sphere index radius nan) ws = grown_box (values_of (vertex_words ws index)) (values_of (vertex_words ws index)) radius
bbox_of (Capsule i1 i2 radius nan) ws = pair_box (vertex_words ws i1) (vertex_words ws i2) radius
bbox_of (Box i1 i2 i3 i4) ws =
    four_box (vertex_words ws (low16bits i1)) (vertex_words ws (low16bits i2)) (vertex_words ws (low16bits i3)) (vertex_words ws (low16bits i4))
bbox_of (Cylinder i1 i2 radius nan) ws = pair_box (vertex_words ws i1) (vertex_words ws i2) radius
