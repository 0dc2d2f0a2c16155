-- What shrinking, listing and storing ask of the slices that they are lent, and what they leave. Definitions only.
use Rattle.std.specs.Prelude.{ℕ, ◌*◌, ◌≤◌, List, ◌≡◌, Float, length, take}
use Rattle.base.specs.Lists.{over}
use Rattle.finishing.specs.Stored.{stored_bytes, floats_of}
use Rattle.math.specs.declared.vec3.Vec3.{Vec3}
use Rattle.octants.specs.declared.lists.OctantCounts.{OctantCounts}
use Rattle.octants.specs.Octants.{counts_of}
use Rattle.prepared.specs.Answers.{Hull}
use Rattle.prepared.specs.Shrunk.{octants_left}
use Rattle.rings.specs.Steps.Stored.{Linked}
use Rattle.shadows.specs.Octants.{octant_of}

-- The corners and links of p polygons stand in `entries` and `rows`; there is room to work in, and points with room for just the vertices.
pub record ShrinkRoom (p v : ℕ) (vertices entries places temp rows points : List ℕ) (centres olds news : List Float) : Type 0 where
  pub few : p ≤ 32767
  pub few_vertices : v ≤ 32768
  pub linked : Linked (take (3 * p) entries) (take (3 * p) rows) p
  pub corners_in : 3 * p ≤ length entries
  pub links_in : 3 * p ≤ length rows
  pub words : 3 * v ≤ length vertices
  pub tri_room : 3 * p ≤ length places
  pub firsts_room : v ≤ length temp
  pub normals_room : 3 * p ≤ length centres
  pub olds_room : 9 * p ≤ length olds
  pub news_room : 9 * p ≤ length news
  pub size : length points ≡ 3 * v

-- v points, and room for their octants and for them, stored and read back
pub record HullRoom (v : ℕ) (h : Hull) (entries places temp stack rows points : List ℕ) : Type 0 where
  pub few_vertices : v ≤ 32768
  pub points_in : 3 * v ≤ length points
  pub for_shrunk : 6 * v ≤ length h.shrunk
  pub for_floats : 3 * v ≤ length h.floats
  pub for_octants : 8 * v ≤ length h.octants
  pub for_rows : 4 * v ≤ length entries
  pub for_keys : 3 * v ≤ length places
  pub for_order : v ≤ length temp
  pub for_temp : v ≤ length stack
  pub for_marks : v ≤ length rows

-- Rule K6, of the points ws: they are stored and read back, and their octants are listed.
pub record HullLeft (quantum : Vec3) (v : ℕ) (ws : List ℕ) (h h' : Hull) (r : OctantCounts) : Type 0 where
  pub shrunk_are : h'.shrunk ≡ over (stored_bytes quantum ws v) h.shrunk
  pub floats_are : h'.floats ≡ over (floats_of quantum ws v) h.floats
  pub octants_are : h'.octants ≡ octants_left (λ o. octant_of o ws v) v h.octants
  pub counts_are : r ≡ counts_of (λ o. octant_of o ws v)
