-- Document 01's listing of two boxes, (−1,−1,−1) to (−0.5,1,1) and (0.5,−1,−1) to (1,1,1), by computing the definitions. Assumes nothing.
use mathlib.Core.Path.{◌≡◌, refl}
use mathlib.Core.List.{List, [], ◌∷◌, ◌++◌}
use Prim.Native.Nat.{ℕ}
use lib.IntN.{ℤ, pos, negsuc}
use lib.Ieee.{of_bits, add, sub, mul, div, lt, to_signed}
use Rattle.float32.specs.Casts.{short_of}
use Rattle.float32.specs.Extremes.{vmax_of}
use Rattle.float32.specs.Signs as Signs
use Rattle.base.specs.LittleEndian.{little_endian, le_at}
use Rattle.records.specs.Shorts.{short_bytes, short_at}
use Rattle.records.specs.Records.{vertex_bytes, boxed_bytes, node_bytes, node_at, tree_bytes}
use Rattle.records.specs.Quantise.{quantise_of}
use Rattle.records.specs.Scale.{scale_of_box}
use Rattle.records.specs.declared.BoundVertex.{BoundVertex}
use Rattle.records.specs.declared.BvhNode.{BvhNode}
use Rattle.records.specs.declared.BvhTree.{BvhTree}
use Rattle.records.specs.declared.scale.Scale.{Scale}

abbrev vertex : ℤ → ℤ → ℤ → BoundVertex
vertex x y z = record { 0 = x; 1 = y; 2 = z }

abbrev low : BoundVertex
low = vertex (negsuc 32766) (negsuc 32766) (negsuc 32766)

abbrev high : BoundVertex
high = vertex (pos 32767) (pos 32767) (pos 32767)

-- node 0 -32767 -32767 -32767 32767 32767 32767 3 0
abbrev node0 : BvhNode
node0 = record { min = low; max = high; item_id = pos 3; item_count = pos 0 }

-- node 1 16383 -32767 -32767 32767 32767 32767 1 1
abbrev node1 : BvhNode
node1 = record { min = vertex (pos 16383) (negsuc 32766) (negsuc 32766); max = high; item_id = pos 1; item_count = pos 1 }

-- tree 0 -32767 -32767 -32767 32767 32767 32767 0 3
abbrev tree0 : BvhTree
tree0 = record { min = low; max = high; node_index1 = pos 0; node_index2 = pos 3 }

abbrev low_bytes : List ℕ
low_bytes = 0x01 ∷ 0x80 ∷ 0x01 ∷ 0x80 ∷ 0x01 ∷ 0x80 ∷ []

abbrev high_bytes : List ℕ
high_bytes = 0xff ∷ 0x7f ∷ 0xff ∷ 0x7f ∷ 0xff ∷ 0x7f ∷ []

abbrev node1_bytes : List ℕ
node1_bytes = 0xff ∷ 0x3f ∷ 0x01 ∷ 0x80 ∷ 0x01 ∷ 0x80 ∷ 0xff ∷ 0x7f ∷ 0xff ∷ 0x7f ∷ 0xff ∷ 0x7f ∷ 0x01 ∷ 0x00 ∷ 0x01 ∷ 0x00 ∷ []

pub node_0 : node_bytes node0 ≡ low_bytes ++ high_bytes ++ (0x03 ∷ 0x00 ∷ 0x00 ∷ 0x00 ∷ [])
unfolding node_bytes boxed_bytes vertex_bytes short_bytes little_endian
node_0 = refl

pub node_1 : node_bytes node1 ≡ node1_bytes
unfolding node_bytes boxed_bytes vertex_bytes short_bytes little_endian
node_1 = refl

pub tree_0 : tree_bytes tree0 ≡ low_bytes ++ high_bytes ++ (0x00 ∷ 0x00 ∷ 0x03 ∷ 0x00 ∷ [])
unfolding tree_bytes boxed_bytes vertex_bytes short_bytes little_endian
tree_0 = refl

pub node_1_read : node_at (low_bytes ++ node1_bytes) 6 ≡ node1
unfolding short_at le_at
node_1_read = refl

-- the whole box, from -1 to 1 on each axis, in words
abbrev whole : Scale
whole = scale_of_box (record { x = 0xbf80_0000; y = 0xbf80_0000; z = 0xbf80_0000 }) (record { x = 0x3f80_0000; y = 0x3f80_0000; z = 0x3f80_0000 })

-- 16383 -32767 -32767, of the corner (0.5, -1, -1)
pub corner : quantise_of (record { x = 0x3f00_0000; y = 0xbf80_0000; z = 0xbf80_0000 }) whole.cen whole.inverse ≡ node1.min
unfolding quantise_of scale_of_box short_of vmax_of Signs.abs_of of_bits add sub mul div lt to_signed
corner = refl
