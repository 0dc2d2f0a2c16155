-- What is gathered from the entries' words. Definitions only.
use Rattle.std.specs.Prelude.{◌≡◌, ℕ, ◌≤◌, List, take}
use Rattle.bvh.specs.Items.{marked}

-- What is gathered: r places, those of the present ones among the first n entries.
pub record Gathered (n : ℕ) (entries places : List ℕ) (r : ℕ) : Type 0 where
  pub places_are : take r places ≡ marked 0 n entries
  pub most : r ≤ n
