-- Whole numbers as bytes. Definitions only.
use Rattle.std.specs.Prelude.{ℕ, zero, suc, ◌+◌, ◌*◌, ◌/◌, ◌%◌, List, [], ◌∷◌, get_or}

-- Rule R1 (01: integers in records are little-endian): the `size` low bytes of n, the lowest first.
unfoldable pub little_endian : ℕ → ℕ → List ℕ
little_endian zero n = []
little_endian (suc size) n = n % 256 ∷ little_endian size (n / 256)

-- Rule R1: the number whose `size` bytes stand from k on, the lowest first.
unfoldable pub le_at : ℕ → List ℕ → ℕ → ℕ
le_at zero bytes k = 0
le_at (suc size) bytes k = get_or bytes k 0 + 256 * le_at size bytes (k + 1)
