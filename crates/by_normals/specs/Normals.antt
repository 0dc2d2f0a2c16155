-- Rule S9 (bounds.rs, calculate_vert_normals, calculate_verts_shrunk_by_normals): every vertex moved against its normal. Definitions only.
use Rattle.std.specs.Prelude.{ℕ, ◌+◌, ◌*◌, ◌/◌, Bool, not, ◌&&◌, cond, List, map, eqb, Float, get_or}
use Rattle.std.specs.Float.Ieee.{neg, eq}
use Rattle.base.specs.Lists.{sift, up_from}
use Rattle.corners.specs.Corners.{in_turn}
use Rattle.math.specs.declared.mat4.Mat4.{Mat4}
use Rattle.math.specs.declared.vec3.Vec3.{Vec3}
use Rattle.math.specs.Vec3s.{add_of, sub_of, scale_of, cross_of, norm_of}
use Rattle.points.specs.Points.{vertex_at, words_of, pos_of}
use Rattle.rays.specs.Checks.{missing}
use Rattle.rays.specs.Rays.{naught}
use Rattle.rings.specs.Moving.{sum_from}
use Rattle.rings.specs.Normals.{origin}

-- polygons by their corners, v vertices, and where they stand: about a centre, under a transform
pub record Placed : Type 0 where
  pub corners : List ℕ
  pub vertices : List ℕ
  pub v : ℕ
  pub center : Vec3
  pub transform : Mat4

abbrev pub placed_of : List ℕ → List ℕ → ℕ → Vec3 → Mat4 → Placed
placed_of corners vertices v center transform = record { corners = corners; vertices = vertices; v = v; center = center; transform = transform }

-- Rule S9 (`norm((p1 - p2).cross(p3 - p2))`): its sign is the other of rule S2's.
unfoldable pub facing : Vec3 → Vec3 → Vec3 → Vec3
unfolding norm_of
facing p1 p2 p3 = norm_of (cross_of (sub_of p1 p2) (sub_of p3 p2))

-- Rule S9 (`self.vertex_pos(v[k])`): where the corner at side s stands
abbrev pub corner_pos : Placed → ℕ → Vec3
corner_pos g s = pos_of g.transform g.center g.vertices (get_or g.corners s 0)

-- Rule S9: the normal of triangle p
unfoldable pub triangle_normal : Placed → ℕ → Vec3
unfolding facing pos_of
triangle_normal g p = facing (corner_pos g (3 * p)) (corner_pos g (3 * p + 1)) (corner_pos g (3 * p + 2))

-- Rule S9: vertex i stands at side s, of a triangle whose corners are all among the vertices.
abbrev pub stands_at : Placed → ℕ → ℕ → Bool
stands_at g i s = eqb (get_or g.corners s 0) i && not (missing g.corners g.v (s / 3))

-- Rule S9 (`for i in v { normals[i] = normals[i] + n; }`): the sum of the normals at the first m sides, from zero, each triangle once for each corner
-- at which the vertex stands
unfoldable pub sum_at : Placed → ℕ → ℕ → Vec3
unfolding triangle_normal
sum_at g i m = sum_from origin (map (λ s. triangle_normal g (s / 3)) (sift (stands_at g i) (up_from 0 m)))

-- Rule S9 (`*n == Vec3::ZERO`): −0 is zero, a NaN is not.
abbrev pub is_origin : Vec3 → Bool
is_origin p = eq p.x naught && (eq p.y naught && eq p.z naught)

-- Rule S9: the normal of a vertex, by the sum
unfoldable pub vertex_normal : Vec3 → Vec3
unfolding norm_of
vertex_normal sum = cond (is_origin sum) sum (norm_of sum)

-- Rule S9 (`v + n * m`): a vertex, moved along the normal of its sum
abbrev pub pushed_of : Vec3 → Vec3 → Float → Vec3
pushed_of from sum by = add_of from (scale_of (vertex_normal sum) by)

-- Rule S9: of n polygons, and by the margin that is given, with its sign turned. Nothing is clamped.
unfoldable pub by_normal_at : Placed → ℕ → Float → ℕ → Vec3
unfolding sum_at vertex_normal
by_normal_at g n margin i = pushed_of (vertex_at g.vertices i) (sum_at g i (3 * n)) (neg margin)

-- Rule S9, of every vertex.
unfoldable pub by_normals : Placed → ℕ → Float → List ℕ
unfolding by_normal_at
by_normals g n margin = in_turn g.v (λ i. words_of (by_normal_at g n margin i))
