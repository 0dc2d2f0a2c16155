-- Rule S6 (bounds.rs, check_shrunk_polys): no vertex, on its way back, crosses a triangle that is not its own. Definitions only.
-- The corners cs are three numbers a polygon (crate corners), `none` where it is no triangle; old and new are the vertices and the shrunk ones.
use Rattle.std.specs.Prelude.{ℕ, ◌+◌, ◌*◌, Bool, false, not, ◌&&◌, ◌||◌, List, [], ◌∷◌, eqb, leb, get_or}
use Rattle.std.specs.Float.Ieee.{eq}
use Rattle.base.specs.Lists.{sift, up_from}
use Rattle.corners.specs.Corners.{there}
use Rattle.math.specs.declared.vec3.Vec3.{Vec3}
use Rattle.math.specs.Vec3s.{◌⊘◌, one, sub_of, scale_of, length_of}
use Rattle.rays.specs.declared.rays.Ray.{Ray}
use Rattle.rays.specs.declared.rays.Facet.{Facet}
use Rattle.rays.specs.Rays.{naught, facet_of, hits}
use Rattle.points.specs.Points.{vertex_at}

-- some number of the list passes the test
abbrev pub any_of : (ℕ → Bool) → List ℕ → Bool
any_of test [] = false
any_of test (p ∷ ps) = test p || any_of test ps

-- of n polygons the triangles, in their order
abbrev pub triangles_of : List ℕ → ℕ → List ℕ
triangles_of cs n = sift (λ p. there cs (3 * p)) (up_from 0 n)

-- Rule S6 (`v.iter().any(|&x| x >= vc)`): a corner of triangle p is none of the v vertices.
abbrev pub missing : List ℕ → ℕ → ℕ → Bool
missing cs v p = leb v (get_or cs (3 * p) 0) || (leb v (get_or cs (3 * p + 1) 0) || leb v (get_or cs (3 * p + 2) 0))

-- Rule S6 (`v.contains(&i)`): vertex i is a corner of triangle p.
abbrev pub own_of : List ℕ → ℕ → ℕ → Bool
own_of cs i p = eqb (get_or cs (3 * p) 0) i || (eqb (get_or cs (3 * p + 1) 0) i || eqb (get_or cs (3 * p + 2) 0) i)

-- triangle p over the vertices ws
abbrev pub facet_over : List ℕ → List ℕ → ℕ → Facet
facet_over cs ws p = facet_of (vertex_at ws (get_or cs (3 * p) 0)) (vertex_at ws (get_or cs (3 * p + 1) 0)) (vertex_at ws (get_or cs (3 * p + 2) 0))

-- Rule S6: the way from the shrunk vertex back to the vertex
unfoldable pub way_back : Vec3 → Vec3 → Ray
way_back vertex shrunk =
    let d = sub_of vertex shrunk in
    record { pos = shrunk; dir = scale_of d (one ⊘ length_of d); length = length_of d }

-- Rule S6: triangle p lets vertex i not pass: it has a missing corner, or it is not the vertex's own and the ray hits it, as it was or shrunk.
abbrev pub stops : List ℕ → ℕ → List ℕ → List ℕ → ℕ → Ray → ℕ → Bool
stops cs v old new i ray p = missing cs v p || (not (own_of cs i p) && (hits ray (facet_over cs old p) || hits ray (facet_over cs new p)))

-- Rule S6: vertex i moved (a NaN length counts as moved), and some triangle stops it.
unfoldable pub fails : List ℕ → ℕ → List ℕ → List ℕ → ℕ → ℕ → Bool
unfolding way_back
fails cs n old new v i =
    let ray = way_back (vertex_at old i) (vertex_at new i) in
    not (eq ray.length naught) && any_of (stops cs v old new i ray) (triangles_of cs n)

-- Rule S6: no vertex fails.
unfoldable pub passes : List ℕ → ℕ → List ℕ → List ℕ → ℕ → Bool
unfolding fails
passes cs n old new v = not (any_of (fails cs n old new v) (up_from 0 v))
