-- The header of document 01's listing of two boxes, (−1,−1,−1) to (−0.5,1,1) and (0.5,−1,−1) to (1,1,1), by computing the definitions. Assumes nothing.
use mathlib.Core.Path.{◌≡◌, refl}
use mathlib.Core.List.{[], ◌∷◌, ◌++◌}
use Prim.Native.Nat.{ℕ}
use lib.ListN.{replicate, drop}
use Rattle.math.specs.declared.words3.Words3.{Words3}
use Rattle.base.specs.LittleEndian.{little_endian}
use Rattle.header.specs.Header.{node_list_bytes, point_bytes, points_bytes, tree_list_bytes, header_answer}
use Rattle.header.specs.declared.Bvh.{Bvh}

-- The listing's header, its nodes at 5000_0000 and its trees at 5000_0050, with this quantum and so many trees.
abbrev header_by : Words3 → ℕ → Bvh
header_by q trees =
    record {
      nodes_address = 0x5000_0000;
      nodes_count = 3;
      nodes_capacity = 5;
      bb_min = record { x = 0xbf80_0000; y = 0xbf80_0000; z = 0xbf80_0000 };
      bb_max = record { x = 0x3f80_0000; y = 0x3f80_0000; z = 0x3f80_0000 };
      bb_center = record { x = 0; y = 0; z = 0 };
      quantum_inverse = record { x = 0x46ff_fe00; y = 0x46ff_fe00; z = 0x46ff_fe00 };
      quantum = q;
      trees_address = 0x5000_0050;
      trees_count = trees;
    }

-- The listing's quantum is 1/32767 on each axis.
abbrev header : ℕ → Bvh
header = header_by (record { x = 0x3800_0100; y = 0x3800_0100; z = 0x3800_0100 })

pub node_list : node_list_bytes (header 1) ≡
    (0x00 ∷ 0x00 ∷ 0x00 ∷ 0x50 ∷ 0x00 ∷ 0x00 ∷ 0x00 ∷ 0x00 ∷ 0x03 ∷ 0x00 ∷ 0x00 ∷ 0x00 ∷ 0x05 ∷ 0x00 ∷ 0x00 ∷ 0x00 ∷ []) ++ replicate 16 0
unfolding node_list_bytes little_endian
node_list = refl

pub box_max : point_bytes (header 1).bb_max
    ≡ 0x00 ∷ 0x00 ∷ 0x80 ∷ 0x3f ∷ 0x00 ∷ 0x00 ∷ 0x80 ∷ 0x3f ∷ 0x00 ∷ 0x00 ∷ 0x80 ∷ 0x3f ∷ 0x00 ∷ 0x00 ∷ 0xc0 ∷ 0xff ∷ []
unfolding point_bytes little_endian
box_max = refl

-- A signalling NaN and a NaN with its sign and all its bits, given for the quantum, are in the header as they are.
pub nan_copied : drop 64 (points_bytes (header_by (record { x = 0x7f80_0001; y = 0xffff_ffff; z = 0x3800_0100 }) 1))
    ≡ 0x01 ∷ 0x00 ∷ 0x80 ∷ 0x7f ∷ 0xff ∷ 0xff ∷ 0xff ∷ 0xff ∷ 0x00 ∷ 0x01 ∷ 0x00 ∷ 0x38 ∷ 0x00 ∷ 0x00 ∷ 0xc0 ∷ 0xff ∷ []
unfolding points_bytes point_bytes little_endian
nan_copied = refl

pub tree_list : tree_list_bytes (header 1) ≡ 0x50 ∷ 0x00 ∷ 0x00 ∷ 0x50 ∷ 0x00 ∷ 0x00 ∷ 0x00 ∷ 0x00 ∷ 0x01 ∷ 0x00 ∷ 0x01 ∷ 0x00 ∷ 0x00 ∷ 0x00 ∷ 0x00 ∷ 0x00 ∷ []
unfolding tree_list_bytes little_endian
tree_list = refl

-- Too many trees are refused before a short buffer is.
pub many_trees : header_answer (header 65536) [] ≡ 1
many_trees = refl

pub short_buffer : header_answer (header 65535) (replicate 127 0) ≡ 2
short_buffer = refl

pub room : header_answer (header 65535) (replicate 128 0) ≡ 0
room = refl
