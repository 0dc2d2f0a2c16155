-- The parts that are written, and how many each list has. Definitions only.
use Rattle.std.specs.Prelude.{ℕ, ◌*◌, ◌<◌, List, ◌++◌, ◌≡◌, length, get_or, drop}
use Rattle.shadows.specs.Octants.{octant_of}
use Rattle.octants.specs.declared.lists.OctantCounts.{OctantCounts}
use Rattle.octants.specs.Octants.{parts}

-- The first m parts hold their lists, and it is said how many each has.
pub record Each (n : ℕ) (ws before after counts : List ℕ) (m : ℕ) : Type 0 where
  pub parts_are : after ≡ parts (λ o. octant_of o ws n) n m before ++ drop (m * n) before
  pub parts_len : length (parts (λ o. octant_of o ws n) n m before) ≡ m * n
  pub counts_are : (o : ℕ) → o < m → get_or counts o 0 ≡ length (octant_of o ws n)

-- the first eight numbers
unfoldable pub counts_in : List ℕ → OctantCounts
counts_in counts =
    record {
      c0 = get_or counts 0 0;
      c1 = get_or counts 1 0;
      c2 = get_or counts 2 0;
      c3 = get_or counts 3 0;
      c4 = get_or counts 4 0;
      c5 = get_or counts 5 0;
      c6 = get_or counts 6 0;
      c7 = get_or counts 7 0;
    }
