-- Rule S2 (bounds.rs, shrink_polys_by_margin: poly_normals): the normal of each polygon over the vertices as given. Definitions only.
use Rattle.std.specs.Prelude.{ℕ, ◌+◌, ◌*◌, cond, List, get_or}
use Rattle.math.specs.declared.vec3.Vec3.{Vec3}
use Rattle.math.specs.Vec3s.{sub_of, cross_of, norm_of}
use Rattle.rays.specs.Checks.{missing}
use Rattle.rays.specs.Rays.{naught}
use Rattle.points.specs.Points.{vertex_at}

-- Rule S2 (`norm((v3 - v2).cross(v1 - v2))`)
unfoldable pub normal_of : Vec3 → Vec3 → Vec3 → Vec3
unfolding norm_of
normal_of v1 v2 v3 = norm_of (cross_of (sub_of v3 v2) (sub_of v1 v2))

abbrev pub origin : Vec3
origin = record { x = naught; y = naught; z = naught }

-- Rule S2: zero of a triangle with a corner past the v vertices, as every corner of another polygon is.
unfoldable pub polygon_normal : List ℕ → List ℕ → ℕ → ℕ → Vec3
unfolding normal_of
polygon_normal cs ws v p =
    cond (missing cs v p) origin
    (normal_of (vertex_at ws (get_or cs (3 * p) 0)) (vertex_at ws (get_or cs (3 * p + 1) 0)) (vertex_at ws (get_or cs (3 * p + 2) 0)))
