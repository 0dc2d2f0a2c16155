-- What the whole asks of the slices that it is lent, and what the search leaves. Definitions only.
use Rattle.std.specs.Prelude.{ℕ, ◌*◌, ◌≤◌, List, ◌≡◌, length, Float, Option, Some}
use Rattle.rays.specs.Steps.Checking.{Checkable}
use Rattle.rays.specs.Steps.Rows.{Laid}
use Rattle.rings.specs.Meshes.{Mesh, by_margin}
use Rattle.rings.specs.Steps.Stored.{Linked}
use Rattle.shrink.specs.Searching.{margin_of}

pub record Found (mesh : Mesh) (start : Float) (points : List ℕ) (r : Option Float) : Type 0 where
  pub answer : r ≡ margin_of mesh start
  pub points_are : (margin : Float) → r ≡ Some margin → points ≡ by_margin mesh margin

-- What shrinking asks: links among the polygons, their t triangles in rows, and room for what is written.
pub record Shrinkable (mesh : Mesh) (tri : List ℕ) (t : ℕ) (firsts : List ℕ) (normals : List Float) (ring : List ℕ)
    (ns olds news : List Float) (points : List ℕ) : Type 0 where
  pub linked : Linked mesh.corners mesh.links mesh.n
  pub laid : Laid mesh.corners mesh.n tri t
  pub checkable : Checkable tri t mesh.vertices points mesh.v olds news
  pub size : length points ≡ 3 * mesh.v
  pub firsts_room : mesh.v ≤ length firsts
  pub normals_room : 3 * mesh.n ≤ length normals
  pub ring_room : 63 ≤ length ring
  pub ns_room : 192 ≤ length ns
