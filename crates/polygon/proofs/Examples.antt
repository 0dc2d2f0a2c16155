-- Polygons of document 01 and of the source's corners, by computing the definitions. Assumes nothing.
use mathlib.Core.Path.{◌≡◌, refl}
use mathlib.Core.List.{[], ◌∷◌, ◌++◌}
use lib.IntN.{ℤ, pos, negsuc}
use lib.ListN.{replicate}
use lib.Ieee.{binary32, of_bits, to_bits, is_nan}
use Rattle.base.specs.LittleEndian.{little_endian, le_at}
use Rattle.polygon.specs.Halves.{four_bytes, halves_bytes, halves_at}
use Rattle.polygon.specs.Polygons.{nan_or, word_or, triangle_halves, round_halves, box_halves, polygon_bytes}
use Rattle.polygon.specs.Polygons.{box_of, polygon_of, polygon_at}
use Rattle.polygon.specs.Answers.{read_of, read_number}
use Rattle.polygon.specs.declared.Polygon.TheVariants.{Triangle, Sphere, Capsule, Box}

-- −1, as a link or an index
abbrev alone : ℤ
alone = negsuc 0

-- The flag of a vertex number, bit 15, is stored with it.
pub flag_stored : polygon_bytes (Triangle (of_bits binary32 0) 0 0x8000 1 2 (pos 0) (pos 0) (pos 0))
    ≡ 0 ∷ 0 ∷ 0 ∷ 0 ∷ 0x00 ∷ 0x80 ∷ 1 ∷ 0 ∷ 2 ∷ 0 ∷ 0 ∷ 0 ∷ 0 ∷ 0 ∷ 0 ∷ 0 ∷ []
unfolding polygon_bytes halves_bytes four_bytes little_endian triangle_halves nan_or word_or is_nan of_bits to_bits
flag_stored = refl

-- A capsule's second index stands behind its radius.
pub capsule_bytes : polygon_bytes (Capsule 258 772 (of_bits binary32 0x4000_0000) 0)
    ≡ 2 ∷ 0 ∷ 0x02 ∷ 0x01 ∷ 0x00 ∷ 0x00 ∷ 0x00 ∷ 0x40 ∷ 0x04 ∷ 0x03 ∷ 0 ∷ 0 ∷ 0 ∷ 0 ∷ 0 ∷ 0 ∷ []
unfolding polygon_bytes halves_bytes four_bytes little_endian round_halves nan_or word_or is_nan of_bits to_bits
capsule_bytes = refl

-- A NaN keeps the word that stands beside it.
pub nan_kept : polygon_bytes (Sphere 1 (of_bits binary32 0x7f80_0001) 0x7f80_0001)
    ≡ 1 ∷ 0 ∷ 1 ∷ 0 ∷ 0x01 ∷ 0x00 ∷ 0x80 ∷ 0x7f ∷ 0 ∷ 0 ∷ 0 ∷ 0 ∷ 0 ∷ 0 ∷ 0 ∷ 0 ∷ []
unfolding polygon_bytes halves_bytes four_bytes little_endian round_halves nan_or word_or is_nan of_bits to_bits
nan_kept = refl

-- A NaN beside which a number's word stands, here that of +infinity, is written as 7FC00000.
pub nan_written : polygon_bytes (Sphere 1 (of_bits binary32 0x7f80_0001) 0x7f80_0000)
    ≡ 1 ∷ 0 ∷ 1 ∷ 0 ∷ 0x00 ∷ 0x00 ∷ 0xc0 ∷ 0x7f ∷ 0 ∷ 0 ∷ 0 ∷ 0 ∷ 0 ∷ 0 ∷ 0 ∷ 0 ∷ []
unfolding polygon_bytes halves_bytes four_bytes little_endian round_halves nan_or word_or is_nan of_bits to_bits
nan_written = refl

-- FB FF .. FF is a box, of which eight bytes are used.
pub box_read : polygon_at (0xfb ∷ replicate 15 0xff) 0 ≡ Box alone alone alone alone
unfolding polygon_at polygon_of halves_at le_at box_of
box_read = refl

pub box_again : polygon_bytes (Box alone alone alone alone) ≡ 3 ∷ 0 ∷ 0 ∷ 0 ∷ (replicate 8 0xff ++ replicate 4 0)
unfolding polygon_bytes halves_bytes four_bytes little_endian box_halves
box_again = refl

-- A triangle of FF .. FF would be of kind 7; with the kind cleared its area is FFFFFFF8.
pub kind_refused : read_number (read_of (replicate 16 0xff)) ≡ 6
unfolding read_of
kind_refused = refl

pub short_refused : read_number (read_of (replicate 15 0xff)) ≡ 5
unfolding read_of
short_refused = refl
