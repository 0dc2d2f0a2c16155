-- Where the lists (5), (), (6, 7), four empty ones and (9) stand, of octants at address 1000 hexadecimal: an empty list has a pointer too.
use Prim.Native.Nat.{◌+◌}
use mathlib.Core.List.{[], ◌∷◌, ◌++◌}
use mathlib.Core.Path.{◌≡◌, refl}
use Rattle.base.specs.LittleEndian.{little_endian}
use Rattle.octant_bytes.specs.Bytes.{pointers_bytes}

pub pointers : pointers_bytes (0x1000 + 96) (1 ∷ 0 ∷ 2 ∷ 0 ∷ 0 ∷ 0 ∷ 0 ∷ 1 ∷ [])
    ≡ little_endian 8 0x1060 ++ little_endian 8 0x1064 ++ little_endian 8 0x1064 ++ little_endian 8 0x106c
    ++ little_endian 8 0x106c ++ little_endian 8 0x106c ++ little_endian 8 0x106c ++ little_endian 8 0x106c
unfolding little_endian
pointers = refl
