-- What is left of a polygon once it is written, and of a record once it is read. Definitions only.
use Rattle.std.specs.Prelude.{ℕ, ◌*◌, ◌/◌, ◌%◌, ◌^◌, ◌<◌, cond, T, eqb, Float}
use Rattle.std.specs.Float.{binary32}
use Rattle.std.specs.Float.Ieee.{of_bits, fits}
use Rattle.std.specs.Int.{w16}
use Rattle.std.proofs.Common.{SFits}
use Rattle.polygon.specs.Polygons.{word_or}
use Rattle.polygon.specs.declared.halves.Halves.{Halves}
use Rattle.polygon.specs.declared.Polygon.{Polygon}
use Rattle.polygon.specs.declared.Polygon.TheVariants.{Triangle, Sphere, Capsule, Box, Cylinder}

-- Rule G10 (01: a triangle's area loses three bits): what `read` gives of what `write` has written. A float is that of its word, which then stands beside it.
abbrev pub canonical : Polygon → Polygon
canonical (Triangle area nan v1 v2 v3 e1 e2 e3) =
    let word = word_or area nan / 8 * 8 in
    Triangle (of_bits binary32 word) word v1 v2 v3 e1 e2 e3
canonical (Sphere index radius nan) = Sphere index (of_bits binary32 (word_or radius nan)) (word_or radius nan)
canonical (Capsule i1 i2 radius nan) = Capsule i1 i2 (of_bits binary32 (word_or radius nan)) (word_or radius nan)
canonical (Box i1 i2 i3 i4) = Box i1 i2 i3 i4
canonical (Cylinder i1 i2 radius nan) = Cylinder i1 i2 (of_bits binary32 (word_or radius nan)) (word_or radius nan)

-- The fields hold what their types can.
abbrev pub Half : ℕ → Type 0
Half n = n < 65536

abbrev pub Word : Float → ℕ → Type 0
Word x nan = T (fits binary32 x) × (nan < 2 ^ 32)

abbrev pub PolygonFits : Polygon → Type 0
PolygonFits (Triangle area nan v1 v2 v3 e1 e2 e3) = Word area nan × Half v1 × Half v2 × Half v3 × SFits w16 e1 × SFits w16 e2 × SFits w16 e3
PolygonFits (Sphere index radius nan) = Word radius nan × Half index
PolygonFits (Capsule i1 i2 radius nan) = Word radius nan × Half i1 × Half i2
PolygonFits (Box i1 i2 i3 i4) = SFits w16 i1 × SFits w16 i2 × SFits w16 i3 × SFits w16 i4
PolygonFits (Cylinder i1 i2 radius nan) = Word radius nan × Half i1 × Half i2

-- each of the eight numbers of a record
pub record HalvesFit (h : Halves) : Type 0 where
  pub at0 : Half h.at0
  pub at2 : Half h.at2
  pub at4 : Half h.at4
  pub at6 : Half h.at6
  pub at8 : Half h.at8
  pub at10 : Half h.at10
  pub at12 : Half h.at12
  pub at14 : Half h.at14

-- Rule G10 (bounds.rs, Polygon: the unused bytes of the primitives are written as zero): a record of a known kind, read and written again.
-- A triangle's is as it was; of a sphere bytes 2 to 7 are kept, of a capsule and a cylinder 2 to 9, of a box 4 to 11, and of byte 0 the kind.
unfoldable pub kept : Halves → Halves
kept h =
    let kind = h.at0 % 8 in
    cond (eqb kind 0) h
    (cond (eqb kind 3) (record { at0 = 3; at2 = 0; at4 = h.at4; at6 = h.at6; at8 = h.at8; at10 = h.at10; at12 = 0; at14 = 0 })
    (cond (eqb kind 1) (record { at0 = 1; at2 = h.at2; at4 = h.at4; at6 = h.at6; at8 = 0; at10 = 0; at12 = 0; at14 = 0 })
    (record { at0 = kind; at2 = h.at2; at4 = h.at4; at6 = h.at6; at8 = h.at8; at10 = 0; at12 = 0; at14 = 0 })))
