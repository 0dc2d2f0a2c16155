-- A record of 16 bytes as eight numbers of two bytes. Definitions only.
use Rattle.std.specs.Prelude.{ℕ, ◌+◌, List, ◌++◌}
use Rattle.base.specs.LittleEndian.{little_endian, le_at}
use Rattle.polygon.specs.declared.halves.Halves.{Halves}

-- Rule G1: four of the numbers.
unfoldable pub four_bytes : ℕ → ℕ → ℕ → ℕ → List ℕ
four_bytes a b c d = little_endian 2 a ++ little_endian 2 b ++ little_endian 2 c ++ little_endian 2 d

-- Rule G1 (01: offsets are those of `write`; bounds.rs, put_u16): the numbers one after the other, each little-endian.
unfoldable pub halves_bytes : Halves → List ℕ
halves_bytes h = four_bytes h.at0 h.at2 h.at4 h.at6 ++ four_bytes h.at8 h.at10 h.at12 h.at14

-- Rule G1 (bounds.rs, get_u16): the numbers that stand from byte k on.
unfoldable pub halves_at : List ℕ → ℕ → Halves
halves_at bytes k =
    record {
      at0 = le_at 2 bytes k;
      at2 = le_at 2 bytes (k + 2);
      at4 = le_at 2 bytes (k + 4);
      at6 = le_at 2 bytes (k + 6);
      at8 = le_at 2 bytes (k + 8);
      at10 = le_at 2 bytes (k + 10);
      at12 = le_at 2 bytes (k + 12);
      at14 = le_at 2 bytes (k + 14);
    }
