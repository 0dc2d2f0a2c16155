-- What shrinking a mesh asks of the slices that it is lent. Definitions only.
use Rattle.std.specs.Prelude.{ℕ, ◌*◌, ◌≤◌, List, ◌≡◌, Float, length}
use Rattle.rings.specs.Meshes.{Mesh}
use Rattle.rings.specs.Steps.Stored.{Linked}

-- A mesh with links among its polygons, room to work in, and points with room for just the vertices.
pub record Meshed (mesh : Mesh) (tri firsts : List ℕ) (normals olds news : List Float) (points : List ℕ) : Type 0 where
  pub linked : Linked mesh.corners mesh.links mesh.n
  pub vertices_in : 3 * mesh.v ≤ length mesh.vertices
  pub few_vertices : mesh.v ≤ 32768
  pub tri_room : 3 * mesh.n ≤ length tri
  pub firsts_room : mesh.v ≤ length firsts
  pub normals_room : 3 * mesh.n ≤ length normals
  pub olds_room : 9 * mesh.n ≤ length olds
  pub news_room : 9 * mesh.n ≤ length news
  pub size : length points ≡ 3 * mesh.v
