-- Rules S2 to S5 together (bounds.rs, shrink_polys_by_margin): every vertex of a mesh, moved by a margin. Definitions only.
use Rattle.std.specs.Prelude.{ℕ, ◌*◌, ◌/◌, cond, List, map, eqb, Float}
use Rattle.std.specs.Float.Ieee.{neg}
use Rattle.corners.specs.Corners.{in_turn}
use Rattle.math.specs.declared.vec3.Vec3.{Vec3}
use Rattle.points.specs.Points.{vertex_at, words_of}
use Rattle.rings.specs.Firsts.{no_side, first_side}
use Rattle.rings.specs.Moving.{moved_of}
use Rattle.rings.specs.Normals.{polygon_normal}
use Rattle.rings.specs.Rings.{ring_of}

-- n polygons, by their corners and links, three numbers a polygon, and v vertices, three words a vertex
pub record Mesh : Type 0 where
  pub corners : List ℕ
  pub links : List ℕ
  pub n : ℕ
  pub vertices : List ℕ
  pub v : ℕ

abbrev pub mesh_of : List ℕ → List ℕ → ℕ → List ℕ → ℕ → Mesh
mesh_of corners links n vertices v = record { corners = corners; links = links; n = n; vertices = vertices; v = v }

abbrev pub normal_in : Mesh → ℕ → Vec3
normal_in mesh p = polygon_normal mesh.corners mesh.vertices mesh.v p

-- the normals of the ring of vertex i, whose first side is s
abbrev pub around : Mesh → ℕ → ℕ → List Vec3
around mesh i s = map (normal_in mesh) (ring_of mesh.corners mesh.links i s)

-- Rules S3 and S5: a vertex without a side stays.
abbrev pub shrunk_by : Mesh → Float → ℕ → ℕ → Vec3
shrunk_by mesh by i s =
    let from = vertex_at mesh.vertices i in
    cond (eqb s no_side) from (moved_of (record { from = from; by = by }) (normal_in mesh (s / 3)) (around mesh i s))

unfoldable pub shrunk_at : Mesh → Float → ℕ → Vec3
shrunk_at mesh by i = shrunk_by mesh by i (first_side mesh.corners i (3 * mesh.n))

-- Rules S2 to S5: each vertex goes against its normals, so by the margin with its sign turned, and reads only the vertices as given.
unfoldable pub by_margin : Mesh → Float → List ℕ
unfolding shrunk_at
by_margin mesh margin = in_turn mesh.v (λ i. words_of (shrunk_at mesh (neg margin) i))
