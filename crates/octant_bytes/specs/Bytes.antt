-- Rule O4 (01, octants: "bytes as its `write`"; bounds.rs, Octants::write): the bytes of the octants' lists. The eight lists are a list of lists,
-- the eight lengths a list of numbers. Definitions only.
use Rattle.std.specs.Prelude.{ℕ, ◌+◌, ◌*◌, List, [], ◌∷◌, ◌++◌, length, replicate}
use Rattle.base.specs.LittleEndian.{little_endian}

-- how many indices each list has
abbrev pub lengths_of : List (List ℕ) → List ℕ
lengths_of [] = []
lengths_of (l ∷ ls) = length l ∷ lengths_of ls

-- the sum of the lengths
abbrev pub all_of : List ℕ → ℕ
all_of [] = 0
all_of (n ∷ ns) = n + all_of ns

-- the lengths, a u32 each
abbrev pub counts_bytes : List ℕ → List ℕ
counts_bytes [] = []
counts_bytes (n ∷ ns) = little_endian 4 n ++ counts_bytes ns

-- where each list stands, a u64 each: the first at p, the others behind it, an empty one where the next begins
abbrev pub pointers_bytes : ℕ → List ℕ → List ℕ
pointers_bytes p [] = []
pointers_bytes p (n ∷ ns) = little_endian 8 p ++ pointers_bytes (p + 4 * n) ns

-- a list's indices, a u32 each
abbrev pub list_bytes : List ℕ → List ℕ
list_bytes [] = []
list_bytes (i ∷ is) = little_endian 4 i ++ list_bytes is

abbrev pub lists_bytes : List (List ℕ) → List ℕ
lists_bytes [] = []
lists_bytes (l ∷ ls) = list_bytes l ++ lists_bytes ls

-- Rule O4: the counts, the pointers, the lists, which begin at byte 96, and 32 zeros; the first byte stands at the address.
unfoldable pub octant_bytes : ℕ → List (List ℕ) → List ℕ
octant_bytes address ls =
    let counts = lengths_of ls in
    counts_bytes counts ++ pointers_bytes (address + 96) counts ++ lists_bytes ls ++ replicate 32 0
