-- The eight lengths and the eight lists, as the code's parts speak of them. Definitions only.
use Rattle.std.specs.Prelude.{ℕ, ◌+◌, ◌*◌, ◌≤◌, List, [], ◌∷◌, ◌++◌, ◌≡◌, length}
use Rattle.std.proofs.lemmas.List.Edits.{sets}
use Rattle.octant_bytes.specs.declared.Counts.{Counts}
use Rattle.octant_bytes.specs.Bytes.{list_bytes}
use Rattle.base.specs.Every.{Every}
use Rattle.base.specs.LittleEndian.{little_endian}

-- no list has more indices than there may be
abbrev pub Few : List ℕ → Type 0
Few ns = Every (λ n. n ≤ 32768) ns

-- the lengths as a list
abbrev pub listed : Counts → List ℕ
listed c = c.c0 ∷ c.c1 ∷ c.c2 ∷ c.c3 ∷ c.c4 ∷ c.c5 ∷ c.c6 ∷ c.c7 ∷ []

-- eight lists as one of lists
abbrev pub eight : List ℕ → List ℕ → List ℕ → List ℕ → List ℕ → List ℕ → List ℕ → List ℕ → List (List ℕ)
eight l0 l1 l2 l3 l4 l5 l6 l7 = l0 ∷ l1 ∷ l2 ∷ l3 ∷ l4 ∷ l5 ∷ l6 ∷ l7 ∷ []

-- four numbers of `size` bytes each
unfoldable pub four_bytes : ℕ → ℕ → ℕ → ℕ → ℕ → List ℕ
four_bytes size a b c d = little_endian size a ++ little_endian size b ++ little_endian size c ++ little_endian size d

-- The list was stored from `at` on, and r is the place behind it.
pub record ListPut (l out out' : List ℕ) (at r : ℕ) : Type 0 where
  pub bytes : out' ≡ sets out at (list_bytes l)
  pub behind : r ≡ at + 4 * length l
