-- What is asked and left where the polygons of a mesh are written and linked. Definitions only.
use Rattle.std.specs.Prelude.{ℕ, ◌*◌, ◌≤◌, List, ◌≡◌, length, take}
use Rattle.base.specs.Lists.{over}
use Rattle.corners.specs.Corners.{corners_of}
use Rattle.edges.specs.Edges.{linked}
use Rattle.sides.specs.Links.{links_of}
use Rattle.linking.specs.Written.{written_of}

-- There are n polygons, not too many, room for them, and room to work in.
pub record LinkRoom (n : ℕ) (polygons out corners keys sides spare links : List ℕ) : Type 0 where
  pub few : n ≤ 32767
  pub records : 16 * n ≤ length polygons
  pub for_out : 16 * n ≤ length out
  pub for_corners : 3 * n ≤ length corners
  pub for_keys : 3 * n ≤ length keys
  pub for_sides : 3 * n ≤ length sides
  pub for_spare : 3 * n ≤ length spare
  pub for_links : 3 * n ≤ length links

-- The records are written with their links; the corners and the links are left for whoever works on.
pub record Meshed (n : ℕ) (polygons out₀ out corners links : List ℕ) : Type 0 where
  pub records_are : out ≡ over (linked n (written_of n polygons)) out₀
  pub corners_are : take (3 * n) corners ≡ corners_of n polygons
  pub links_are : take (3 * n) links ≡ links_of (corners_of n polygons)
