-- What the source's loop works on. Definitions only.
use Rattle.std.specs.Prelude.{ℕ, ◌*◌, ◌≤◌, ◌<◌, List, ◌≡◌, length, take}
use Rattle.base.specs.Lists.{Below}

-- A work buffer begins with the list, which has r members; what follows is free.
pub record Begins (xs buffer : List ℕ) (r : ℕ) : Type 0 where
  pub count : r ≡ length xs
  pub list : take r buffer ≡ xs

-- Vertex i may be tested against those of a list: all have their rows.
pub record Testable (n : ℕ) (rows : List ℕ) (i : ℕ) (kept : List ℕ) : Type 0 where
  pub size : 4 * n ≤ length rows
  pub few : n ≤ 32768
  pub vertex : i < n
  pub below : Below n kept

-- It may join the list that the first `count` places hold: there is room for one more.
pub record Admissible (n : ℕ) (rows : List ℕ) (i : ℕ) (kept : List ℕ) (count : ℕ) : Type 0 where
  pub room : count < length kept
  pub testable : Testable n rows i (take count kept)
