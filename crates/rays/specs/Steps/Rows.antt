-- The triangles in rows: three rows of corners, and nine rows of coordinates, so that a loop over triangles reads each row in order. Definitions only.
use Rattle.std.specs.Prelude.{ℕ, ◌+◌, ◌*◌, ◌≤◌, ◌<◌, Bool, not, ◌&&◌, ◌||◌, List, ◌≡◌, eqb, length, get_or, set, Float}
use Rattle.std.specs.Float.{nan}
use Rattle.math.specs.declared.vec3.Vec3.{Vec3}
use Rattle.rays.specs.declared.rays.Ray.{Ray}
use Rattle.rays.specs.declared.rays.Facet.{Facet}
use Rattle.rays.specs.Checks.{triangles_of}
use Rattle.rays.specs.Rays.{facet_of, hits}
use Rattle.points.specs.Points.{vertex_at}
use Rattle.rays.specs.Steps.Counting.{count_to}

-- The three rows hold the corners of the triangles of n polygons, of which there are t.
pub record Laid (cs : List ℕ) (n : ℕ) (tri : List ℕ) (t : ℕ) : Type 0 where
  pub count : t ≡ length (triangles_of cs n)
  pub first : (k : ℕ) → k < t → get_or tri k 0 ≡ get_or cs (3 * get_or (triangles_of cs n) k 0) 0
  pub second : (k : ℕ) → k < t → get_or tri (t + k) 0 ≡ get_or cs (3 * get_or (triangles_of cs n) k 0 + 1) 0
  pub third : (k : ℕ) → k < t → get_or tri (2 * t + k) 0 ≡ get_or cs (3 * get_or (triangles_of cs n) k 0 + 2) 0

-- polygon p stored as triangle k of t
abbrev pub put_triangle : List ℕ → ℕ → ℕ → List ℕ → ℕ → List ℕ
put_triangle tri t k cs p = set (set (set tri k (get_or cs (3 * p) 0)) (t + k) (get_or cs (3 * p + 1) 0)) (2 * t + k) (get_or cs (3 * p + 2) 0)

-- What laying the triangles of n polygons asks: their corners, and room for as many triangles.
pub record Layable (cs : List ℕ) (n : ℕ) (tri : List ℕ) : Type 0 where
  pub corners : 3 * n ≤ length cs
  pub room : 3 * n ≤ length tri
  pub few : n < 32768

-- the point whose coordinates stand in three rows of t, the first of them at `at`
abbrev pub column_at : List Float → ℕ → ℕ → Vec3
column_at rows t at = record { x = get_or rows at nan; y = get_or rows (at + t) nan; z = get_or rows (at + 2 * t) nan }

-- triangle k of t
abbrev pub facet_at : List Float → ℕ → ℕ → Facet
facet_at rows t k = record { corner = column_at rows t k; side1 = column_at rows t (3 * t + k); side2 = column_at rows t (6 * t + k) }

-- vertex i is a corner of triangle k
abbrev pub own_in : List ℕ → ℕ → ℕ → ℕ → Bool
own_in tri t i k = eqb (get_or tri k 0) i || (eqb (get_or tri (t + k) 0) i || eqb (get_or tri (2 * t + k) 0) i)

-- The triangle has not the vertex i among its corners, and the ray hits it.
abbrev pub struck : List ℕ → List Float → ℕ → ℕ → Ray → ℕ → Bool
struck tri rows t i ray k = hits ray (facet_at rows t k) && not (own_in tri t i k)

abbrev pub hits_in : List ℕ → List Float → ℕ → ℕ → Ray → ℕ
hits_in tri rows t i ray = count_to t (struck tri rows t i ray)

-- What the loop over t triangles asks: the rows are there.
pub record InRows (tri : List ℕ) (rows : List Float) (t : ℕ) : Type 0 where
  pub corners : 3 * t ≤ length tri
  pub coordinates : 9 * t ≤ length rows
  pub few : t < 32768

-- ---- filling the rows

-- a point stored in three rows, and a triangle in all nine
abbrev pub put_column : List Float → ℕ → ℕ → Vec3 → List Float
put_column rows t at p = set (set (set rows at p.x) (at + t) p.y) (at + 2 * t) p.z

unfoldable pub put_facet : List Float → ℕ → ℕ → Facet → List Float
put_facet rows t k f = put_column (put_column (put_column rows t k f.corner) t (3 * t + k) f.side1) t (6 * t + k) f.side2

-- triangle k, its corners being numbers of vertices
abbrev pub facet_in : List ℕ → ℕ → List ℕ → ℕ → Facet
facet_in tri t ws k = facet_of (vertex_at ws (get_or tri k 0)) (vertex_at ws (get_or tri (t + k) 0)) (vertex_at ws (get_or tri (2 * t + k) 0))

-- The rows hold the first m triangles.
pub record Filled (tri : List ℕ) (t : ℕ) (ws : List ℕ) (rows : List Float) (m : ℕ) : Type 0 where
  pub facets : (k : ℕ) → k < m → facet_at rows t k ≡ facet_in tri t ws k

-- What filling asks: room, and corners that are vertices.
pub record Fillable (tri : List ℕ) (t : ℕ) (ws : List ℕ) (rows : List Float) : Type 0 where
  pub rows_in : InRows tri rows t
  pub v : ℕ
  pub vertices_in : 3 * v ≤ length ws
  pub inside : (k : ℕ) → k < 3 * t → get_or tri k 0 < v
