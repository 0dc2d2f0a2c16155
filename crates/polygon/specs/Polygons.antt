-- Polygons and their records of 16 bytes (01, Polygons; bounds.rs, Polygon). Definitions only.
use Rattle.std.specs.Prelude.{ℕ, ◌+◌, ◌*◌, ◌/◌, ◌%◌, cond, List, eqb, ℤ, get_or, Float}
use Rattle.std.specs.Float.{binary32}
use Rattle.std.specs.Float.Ieee.{is_nan, of_bits, to_bits}
use Rattle.float32.specs.Casts.{low16bits, signed16}
use Rattle.polygon.specs.Halves.{halves_bytes, halves_at}
use Rattle.polygon.specs.declared.halves.Halves.{Halves}
use Rattle.polygon.specs.declared.Polygon.{Polygon}
use Rattle.polygon.specs.declared.Polygon.TheVariants.{Triangle, Sphere, Capsule, Box, Cylinder}

-- ---- writing

-- Rule G2 (01: a NaN's bits must be some NaN's): a word that is a NaN's, and 7FC00000 for any other.
unfoldable pub nan_or : ℕ → ℕ
nan_or word = cond (is_nan (of_bits binary32 word)) word 0x7fc0_0000

-- Rule G2 (01: a copied NaN keeps its bits): the word of a float, and of a NaN the word that stands beside it, if that is a NaN's.
unfoldable pub word_or : Float → ℕ → ℕ
word_or x nan = cond (is_nan x) (nan_or nan) (to_bits binary32 x)

-- Rule G3 (01: byte 0's low three bits hold the kind; bounds.rs, write, to_bytes): bytes 0 to 3 are the area, of which the kind, 0, takes three bits;
-- then three vertices and three links.
unfoldable pub triangle_halves : ℕ → ℕ → ℕ → ℕ → ℤ → ℤ → ℤ → Halves
triangle_halves area v1 v2 v3 e1 e2 e3 =
    record {
      at0 = area % 65536 / 8 * 8;
      at2 = area / 65536;
      at4 = v1;
      at6 = v2;
      at8 = v3;
      at10 = low16bits e1;
      at12 = low16bits e2;
      at14 = low16bits e3;
    }

-- Rule G3 (bounds.rs, write): an index, the radius, and behind it a second index, which a sphere has not.
unfoldable pub round_halves : ℕ → ℕ → ℕ → ℕ → Halves
round_halves kind i1 i2 radius =
    record {
      at0 = kind;
      at2 = i1;
      at4 = radius % 65536;
      at6 = radius / 65536;
      at8 = i2;
      at10 = 0;
      at12 = 0;
      at14 = 0;
    }

-- Rule G3 (bounds.rs, write): four indices from byte 4 on.
unfoldable pub box_halves : ℤ → ℤ → ℤ → ℤ → Halves
box_halves i1 i2 i3 i4 =
    record {
      at0 = 3;
      at2 = 0;
      at4 = low16bits i1;
      at6 = low16bits i2;
      at8 = low16bits i3;
      at10 = low16bits i4;
      at12 = 0;
      at14 = 0;
    }

-- Rule G3 (bounds.rs, kind_byte): the kinds 0 to 4.
abbrev pub halves_of : Polygon → Halves
halves_of (Triangle area nan v1 v2 v3 e1 e2 e3) = triangle_halves (word_or area nan) v1 v2 v3 e1 e2 e3
halves_of (Sphere index radius nan) = round_halves 1 index 0 (word_or radius nan)
halves_of (Capsule i1 i2 radius nan) = round_halves 2 i1 i2 (word_or radius nan)
halves_of (Box i1 i2 i3 i4) = box_halves i1 i2 i3 i4
halves_of (Cylinder i1 i2 radius nan) = round_halves 4 i1 i2 (word_or radius nan)

-- Rule G3 (bounds.rs, to_bytes): the 16 bytes of a polygon.
unfoldable pub polygon_bytes : Polygon → List ℕ
polygon_bytes p = halves_bytes (halves_of p)

-- ---- reading

-- the word of its two halves
abbrev pub joined : ℕ → ℕ → ℕ
joined low high = low + 65536 * high

-- Rule G4 (bounds.rs, read: byte 0 is masked before decoding): of the area the kind's three bits are cleared. Beside a float stands the word that was read.
unfoldable pub triangle_of : Halves → Polygon
triangle_of h =
    let area = joined (h.at0 / 8 * 8) h.at2 in
    Triangle (of_bits binary32 area) area h.at4 h.at6 h.at8 (signed16 h.at10) (signed16 h.at12) (signed16 h.at14)

-- Rule G4: a sphere, and below a capsule, a box and a cylinder.
unfoldable pub sphere_of : Halves → Polygon
sphere_of h = let radius = joined h.at4 h.at6 in Sphere h.at2 (of_bits binary32 radius) radius

unfoldable pub capsule_of : Halves → Polygon
capsule_of h = let radius = joined h.at4 h.at6 in Capsule h.at2 h.at8 (of_bits binary32 radius) radius

unfoldable pub box_of : Halves → Polygon
box_of h = Box (signed16 h.at4) (signed16 h.at6) (signed16 h.at8) (signed16 h.at10)

unfoldable pub cylinder_of : Halves → Polygon
cylinder_of h = let radius = joined h.at4 h.at6 in Cylinder h.at2 h.at8 (of_bits binary32 radius) radius

-- Rule G4 (bounds.rs, read): by the kind. Kind 4 is the last; 5, 6 and 7 are refused before (rule G5).
unfoldable pub polygon_of : Halves → Polygon
polygon_of h =
    let kind = h.at0 % 8 in
    cond (eqb kind 0) (triangle_of h)
    (cond (eqb kind 3) (box_of h)
    (cond (eqb kind 1) (sphere_of h)
    (cond (eqb kind 2) (capsule_of h) (cylinder_of h))))

-- Rule G4: the polygon whose record begins at byte k; its unused bytes are not looked at.
unfoldable pub polygon_at : List ℕ → ℕ → Polygon
polygon_at bytes k = polygon_of (halves_at bytes k)

-- Rule G4 (01: byte 0's low three bits hold the kind).
abbrev pub kind_at : List ℕ → ℕ → ℕ
kind_at bytes k = get_or bytes k 0 % 8
