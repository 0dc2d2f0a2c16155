-- What the functions ask of an order that they are lent. Definitions only.
use Rattle.std.specs.Prelude.{ℕ, ◌*◌, ◌≤◌, List, length, take}
use Rattle.base.specs.Lists.{Below, Permutes, up_from}

-- The first n of an order are the places 0 to n − 1, each once.
pub record Numbering (n : ℕ) (order : List ℕ) : Type 0 where
  pub few : n ≤ 32767
  pub long : n ≤ length order
  pub each_once : Permutes (take n order) (up_from 0 n)

-- There is a record for each of n positions, and room for it.
pub record Reorderable (n : ℕ) (order lookup polygons out : List ℕ) : Type 0 where
  pub few : n ≤ 32767
  pub long : n ≤ length order
  pub below : Below n (take n order)
  pub small : Below 65536 lookup
  pub records : 16 * n ≤ length polygons
  pub room : 16 * n ≤ length out

-- The same, before the lookup is made.
pub record Rebuildable (n : ℕ) (order lookup polygons out : List ℕ) : Type 0 where
  pub numbering : Numbering n order
  pub lookup_room : n ≤ length lookup
  pub records : 16 * n ≤ length polygons
  pub room : 16 * n ≤ length out
