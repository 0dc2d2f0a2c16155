-- What moving the vertices asks, and the normals that are gathered for a vertex. Definitions only.
use Rattle.std.specs.Prelude.{ℕ, zero, suc, ◌+◌, ◌*◌, ◌≤◌, ◌<◌, List, ◌≡◌, length, get_or, Float}
use Rattle.math.specs.declared.vec3.Vec3.{Vec3}
use Rattle.rings.specs.Meshes.{Mesh}
use Rattle.rings.specs.Steps.Stored.{normal_at, Normals, Firsts, Linked}

-- the normal that place j of the gathered ones is to hold: the polygon's own, then the ring's
abbrev pub gathered : List Float → ℕ → List ℕ → ℕ → Vec3
gathered normals poly ring zero = normal_at normals poly
gathered normals poly ring (suc k) = normal_at normals (get_or ring k 0)

pub record Gathered (normals : List Float) (poly : ℕ) (ring : List ℕ) (count : ℕ) (ns : List Float) : Type 0 where
  pub normals_are : (j : ℕ) → j < count + 1 → normal_at ns j ≡ gathered normals poly ring j

-- What moving a mesh's vertices asks: links among the polygons, first sides, normals, and room for a ring and its normals.
pub record Movable (mesh : Mesh) (firsts : List ℕ) (normals : List Float) (ring : List ℕ) (ns : List Float) : Type 0 where
  pub linked : Linked mesh.corners mesh.links mesh.n
  pub vertices_in : 3 * mesh.v ≤ length mesh.vertices
  pub few : mesh.v ≤ 32768
  pub firsts_in : mesh.v ≤ length firsts
  pub firsts_are : Firsts mesh.corners (3 * mesh.n) mesh.v firsts
  pub normals_in : 3 * mesh.n ≤ length normals
  pub normals_are : Normals mesh.corners mesh.vertices mesh.v normals mesh.n
  pub ring_room : 63 ≤ length ring
  pub normal_room : 192 ≤ length ns
