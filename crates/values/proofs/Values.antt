-- Document 01, "Values to check": those marked to be proved, each by computing the definition that a contract cites. Assumes nothing.
use mathlib.Core.Path.{◌≡◌, refl, ap, ◌∙◌}
use mathlib.Core.Bool.{true, false}
use mathlib.Core.List.{List, [], ◌∷◌, ◌++◌}
use Prim.Native.Nat.{ℕ, ◌*◌, ◌/◌, ◌%◌}
use native.Mathlib.Omega.{arith}
use borrow.Author.Tests.{eq-eqb}
use lib.Dec.{eqb}
use lib.ListN.{take, drop}
use lib.IntN.{ℤ, pos, negsuc}
use lib.Ieee.{Float, nan, inf, neg, sub, mul, lt, le, is_nan, to_signed, binary32, of_bits, to_bits}
use Rattle.base.specs.LittleEndian.{little_endian, le_at}
use Rattle.base.specs.Lists.{over}
use Rattle.float32.specs.Casts.{short_of, clamp_of, truncated_of, vertex_of}
use Rattle.float32.specs.SquareRoot.{sqrt_of}
use Rattle.sides.specs.Links.{link_of, links_of}
use Rattle.sides.specs.Sides.{pair_of, key_of}
use Rattle.materials.specs.Materials.{material_of, value_at, values_of, admit, list_of, indices_of}
use Rattle.corners.specs.Corners.{none, next_of, is_triangle, corner_of, corners_at, corners_of, link_bytes, linked_record, linked_records, links_put}
use Rattle.edges.specs.Edges.{linked}
use Rattle.polygon.specs.Halves.{four_bytes, halves_bytes}
use Rattle.polygon.specs.Polygons.{word_or, triangle_halves, polygon_bytes}
use Rattle.polygon.specs.declared.Polygon.TheVariants.{Triangle}
use Rattle.shadows.specs.Shadows.{flip_of, reaches, shadowed_by}
use Rattle.shadows.specs.Kept.{admit as keep}
use Rattle.shadows.specs.Octants.{shadowed_in, octant_of}

-- to_short of 40000 is -25536
pub short_40000 : short_of (of_bits binary32 0x471c_4000) ≡ negsuc 25535
unfolding short_of of_bits to_signed
short_40000 = refl

-- to_short of +infinity is -1
pub short_infinity : short_of (inf false) ≡ negsuc 0
unfolding short_of to_signed
short_infinity = refl

-- to_short of a NaN is 0
pub short_nan : short_of nan ≡ pos 0
unfolding short_of to_signed
short_nan = refl

-- a vertex of 40000 is 32767
pub vertex_40000 : vertex_of (of_bits binary32 0x471c_4000) ≡ pos 32767
unfolding vertex_of truncated_of clamp_of of_bits is_nan neg lt to_signed
vertex_40000 = refl

-- a vertex of -0.9 is 0
pub vertex_minus_0_9 : vertex_of (of_bits binary32 0xbf66_6666) ≡ pos 0
unfolding vertex_of truncated_of clamp_of of_bits is_nan neg lt to_signed
vertex_minus_0_9 = refl

-- √2 is 3FB504F3
pub sqrt_2 : to_bits binary32 (sqrt_of binary32 (of_bits binary32 0x4000_0000)) ≡ 0x3fb5_04f3
unfolding sqrt_of of_bits to_bits
sqrt_2 = refl

-- the record of a triangle with vertices 1 2 3 and links −1, by its area; the word beside the area is for a NaN alone
abbrev triangle : ℕ → ℕ → List ℕ
triangle area beside = polygon_bytes (Triangle (of_bits binary32 area) beside 1 2 3 (negsuc 0) (negsuc 0) (negsuc 0))

abbrev triangle_bytes : List ℕ
triangle_bytes =
    0x00 ∷ 0x00 ∷ 0x80 ∷ 0x3f ∷ 0x01 ∷ 0x00 ∷ 0x02 ∷ 0x00 ∷ 0x03 ∷ 0x00 ∷ 0xff ∷ 0xff ∷ 0xff ∷ 0xff ∷ 0xff ∷ 0xff ∷ []

-- area 1
pub triangle_1 : (beside : ℕ) → triangle 0x3f80_0000 beside ≡ triangle_bytes
unfolding polygon_bytes halves_bytes four_bytes little_endian triangle_halves word_or is_nan of_bits to_bits
triangle_1 beside = refl

-- area bits 3F800005 give the same
pub triangle_3f800005 : (beside : ℕ) → triangle 0x3f80_0005 beside ≡ triangle_bytes
unfolding polygon_bytes halves_bytes four_bytes little_endian triangle_halves word_or is_nan of_bits to_bits
triangle_3f800005 beside = refl

-- triangles (0,1,2), (2,1,3), (1,2,4) by their corners: links (−1,1,−1), (0,−1,−1), (0,−1,−1); none is −1 as a u16
pub links_3 : links_of (0 ∷ 1 ∷ 2 ∷ 2 ∷ 1 ∷ 3 ∷ 1 ∷ 2 ∷ 4 ∷ []) ≡ none ∷ 1 ∷ none ∷ 0 ∷ none ∷ none ∷ 0 ∷ none ∷ none ∷ []
unfolding next_of pair_of key_of link_of
links_3 = refl

-- The low three bits of a triangle's first byte are 0, whatever the word of its area is.
kind_0 : (word : ℕ) → eqb (word % 65536 / 8 * 8 % 256 % 8) 0 ≡ true
kind_0 word = eq-eqb (word % 65536 / 8 * 8 % 256 % 8) 0 (omega arith)

-- the corners of three triangles, and their records with these links
module _ (bytes : List ℕ) (first : is_triangle bytes 0 ≡ true) (second : is_triangle bytes 1 ≡ true) (third : is_triangle bytes 2 ≡ true) where
  abbrev corners_in : ℕ → List ℕ
  corners_in p = corner_of bytes p 0 ∷ corner_of bytes p 1 ∷ corner_of bytes p 2 ∷ []

  corners_of_3 : corners_of 3 bytes ≡ corners_in 0 ++ corners_in 1 ++ corners_in 2
  unfolding corners_at
  corners_of_3 = rw (first, second, third)

  abbrev record_with : List ℕ → ℕ → List ℕ
  record_with links p = take 10 (take 16 (drop (16 * p) bytes)) ++ link_bytes links p

  records_of_3 : (links : List ℕ) → linked_records 3 links bytes ≡ record_with links 0 ++ record_with links 1 ++ record_with links 2
  unfolding linked_record
  records_of_3 links = rw (first, second, third)

-- the records of the triangles (0,1,2), (2,1,3), (1,2,4), whatever their areas are and the words beside these, with three links each
abbrev triangles_3 : (ℕ → Float) → (ℕ → ℕ) → ℤ → ℤ → ℤ → ℤ → ℤ → ℤ → ℤ → ℤ → ℤ → List ℕ
triangles_3 area beside a b c d e f g h i =
    polygon_bytes (Triangle (area 0) (beside 0) 0 1 2 a b c) ++ polygon_bytes (Triangle (area 1) (beside 1) 2 1 3 d e f)
    ++ polygon_bytes (Triangle (area 2) (beside 2) 1 2 4 g h i)

-- Once they are linked, whatever links they came with, the records have the links (−1,1,−1), (0,−1,−1), (0,−1,−1).
pub linked_3 : (area : ℕ → Float) (beside : ℕ → ℕ) (a b c d e f g h i : ℤ)
    → linked 3 (triangles_3 area beside a b c d e f g h i)
    ≡ triangles_3 area beside (negsuc 0) (pos 1) (negsuc 0) (pos 0) (negsuc 0) (negsuc 0) (pos 0) (negsuc 0) (negsuc 0)
unfolding linked links_put link_bytes le_at polygon_bytes halves_bytes four_bytes little_endian triangle_halves
linked_3 area beside a b c d e f g h i =
    let bytes = triangles_3 area beside a b c d e f g h i in
    let first = kind_0 (word_or (area 0) (beside 0)) in
    let second = kind_0 (word_or (area 1) (beside 1)) in
    let third = kind_0 (word_or (area 2) (beside 2)) in
    ap (λ (cs : List ℕ). links_put 3 (links_of cs) bytes) (corners_of_3 bytes first second third)
    ∙ ap (λ (links : List ℕ). links_put 3 links bytes) links_3
    ∙ ap (λ (records : List ℕ). over records bytes)
    (records_of_3 bytes first second third (none ∷ 1 ∷ none ∷ 0 ∷ none ∷ none ∷ 0 ∷ none ∷ none ∷ []))

-- what polygons 2, 0, 2, 9 have of the materials (1,0), (2,0), (1,0)
abbrev materials_4 : List ℕ
materials_4 = values_of 3 (1 ∷ 0 ∷ 2 ∷ 0 ∷ 1 ∷ 0 ∷ []) 4 (2 ∷ 0 ∷ 2 ∷ 9 ∷ [])

-- the list is (1,0), (0,0)
pub list_4 : list_of materials_4 ≡ material_of 1 0 ∷ material_of 0 0 ∷ []
unfolding value_at admit
list_4 = refl

-- the indices are 0, 0, 0, 1
pub indices_4 : indices_of materials_4 ≡ 0 ∷ 0 ∷ 0 ∷ 1 ∷ []
unfolding value_at admit
indices_4 = refl

-- vertices (0,0,0), (1,1,1), (1,1,1) as words
abbrev vertices_3 : List ℕ
vertices_3 = 0 ∷ 0 ∷ 0 ∷ 0x3f80_0000 ∷ 0x3f80_0000 ∷ 0x3f80_0000 ∷ 0x3f80_0000 ∷ 0x3f80_0000 ∷ 0x3f80_0000 ∷ []

-- octant 0 holds 1
pub octant_0 : octant_of 0 vertices_3 3 ≡ 1 ∷ []
unfolding keep shadowed_in shadowed_by reaches flip_of of_bits sub mul neg le
octant_0 = refl

-- octant 7 holds 0
pub octant_7 : octant_of 7 vertices_3 3 ≡ 0 ∷ []
unfolding keep shadowed_in shadowed_by reaches flip_of of_bits sub mul neg le
octant_7 = refl

-- octant 1 holds 0, 1
pub octant_1 : octant_of 1 vertices_3 3 ≡ 0 ∷ 1 ∷ []
unfolding keep shadowed_in shadowed_by reaches flip_of of_bits sub mul neg le
octant_1 = refl
