-- An i16 as bytes. Definitions only.
use Rattle.std.specs.Prelude.{ℕ, List, ℤ}
use Rattle.float32.specs.Casts.{low16bits, signed16}
use Rattle.base.specs.LittleEndian.{little_endian, le_at}

-- Rule R2 (mod.rs, Writer::i16): two bytes, in two's complement.
unfoldable pub short_bytes : ℤ → List ℕ
short_bytes v = little_endian 2 (low16bits v)

-- Rule R2 (mod.rs, Pod for i16): the number that the two bytes from k on stand for.
unfoldable pub short_at : List ℕ → ℕ → ℤ
short_at bytes k = signed16 (le_at 2 bytes k)
