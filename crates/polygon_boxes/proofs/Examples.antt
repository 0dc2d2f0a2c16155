-- The boxes of polygons at the source's corners, by computing the definitions. Assumes nothing.
use mathlib.Core.Path.{◌≡◌, refl}
use mathlib.Core.List.{[], ◌∷◌}
use lib.IntN.{ℤ, pos, negsuc}
use lib.ListN.{replicate}
use lib.Ieee.{binary32, of_bits, to_bits, neg, lt, add}
use Rattle.float32.specs.Extremes.{vmin_word, vmax_word}
use Rattle.polygon.specs.declared.Polygon.TheVariants.{Triangle, Sphere, Box}
use Rattle.polygon_boxes.specs.Boxes.{vertex_words, three_box, four_box, grown_box, bbox_of}

-- −1, as a link or an index
abbrev alone : ℤ
alone = negsuc 0

-- Sphere 32769 of two vertices is not vertex 1's: its box is about zero.
pub sphere_not_masked : bbox_of (Sphere 32769 (of_bits binary32 0x3f00_0000) 0) (replicate 6 0x3f80_0000)
    ≡ record {
      min = record { x = 0xbf00_0000; y = 0xbf00_0000; z = 0xbf00_0000 };
      max = record { x = 0x3f00_0000; y = 0x3f00_0000; z = 0x3f00_0000 };
    }
unfolding grown_box vertex_words of_bits to_bits add neg
sphere_not_masked = refl

-- A triangle's is.
pub triangle_masked : bbox_of (Triangle (of_bits binary32 0) 0 0x8001 1 1 alone alone alone) (replicate 6 0x3f80_0000)
    ≡ record {
      min = record { x = 0x3f80_0000; y = 0x3f80_0000; z = 0x3f80_0000 };
      max = record { x = 0x3f80_0000; y = 0x3f80_0000; z = 0x3f80_0000 };
    }
unfolding three_box vertex_words vmin_word vmax_word of_bits lt
triangle_masked = refl

-- Index −1 of a box is 65535: missing, so zero.
pub box_missing : bbox_of (Box alone (pos 0) (pos 0) (pos 0)) (replicate 3 0x3f80_0000)
    ≡ record { min = record { x = 0; y = 0; z = 0 }; max = record { x = 0x3f80_0000; y = 0x3f80_0000; z = 0x3f80_0000 } }
unfolding four_box vertex_words vmin_word vmax_word of_bits lt
box_missing = refl

-- A tie keeps the later zero, and a NaN that is copied its bits.
pub later_zero : bbox_of (Triangle (of_bits binary32 0) 0 0 1 2 alone alone alone)
    (0x7f80_0001 ∷ 0 ∷ 0x8000_0000 ∷ 0x7f80_0002 ∷ 0x8000_0000 ∷ 0 ∷ 0x7f80_0003 ∷ 0 ∷ 0x8000_0000 ∷ [])
    ≡ record { min = record { x = 0x7f80_0003; y = 0; z = 0x8000_0000 }; max = record { x = 0x7f80_0003; y = 0; z = 0x8000_0000 } }
unfolding three_box vertex_words vmin_word vmax_word of_bits lt
later_zero = refl
