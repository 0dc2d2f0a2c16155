-- What the links of n polygons are worked out in. Definitions only.
use Rattle.std.specs.Prelude.{ℕ, ◌*◌, ◌≤◌, List, length}

-- There are n polygons, not too many, and there is room to work in.
pub record Work (n : ℕ) (polygons corners keys sides spare links : List ℕ) : Type 0 where
  pub few : n ≤ 32767
  pub records : 16 * n ≤ length polygons
  pub for_corners : 3 * n ≤ length corners
  pub for_keys : 3 * n ≤ length keys
  pub for_sides : 3 * n ≤ length sides
  pub for_spare : 3 * n ≤ length spare
  pub for_links : 3 * n ≤ length links
