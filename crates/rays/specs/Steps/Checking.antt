-- Rule S6 over the rows: what the parts of the check say to each other. Definitions only.
use Rattle.std.specs.Prelude.{ℕ, ◌-◌, ◌*◌, ◌≤◌, Bool, false, cond, not, ◌&&◌, ◌||◌, List, ◌≡◌, eqb, leb, length, get_or, Float}
use Rattle.std.specs.Float.Ieee.{eq}
use Rattle.math.specs.declared.vec3.Vec3.{Vec3}
use Rattle.rays.specs.declared.rays.Ray.{Ray}
use Rattle.rays.specs.Checks.{way_back}
use Rattle.rays.specs.Rays.{naught, hits}
use Rattle.points.specs.Points.{vertex_at}
use Rattle.rays.specs.Steps.Counting.{none_to}
use Rattle.rays.specs.Steps.Rows.{InRows, Filled, own_in, facet_in}

-- a triangle that has not the vertex i, over the vertices ws, lies on the ray
abbrev pub on_the_way : List ℕ → ℕ → List ℕ → ℕ → Ray → ℕ → Bool
on_the_way tri t ws i ray k = hits ray (facet_in tri t ws k) && not (own_in tri t i k)

-- some triangle has a corner that is no vertex
abbrev pub missing_in : List ℕ → ℕ → ℕ → Bool
missing_in tri t v = not (none_to (3 * t) (λ k. leb v (get_or tri k 0)))

-- Rule S6: a vertex moved, as one whose way has a NaN length did
abbrev pub has_moved : Vec3 → Vec3 → Bool
has_moved vertex shrunk = not (eq (way_back vertex shrunk).length naught)

abbrev pub moved_in : List ℕ → List ℕ → ℕ → Bool
moved_in old new i = has_moved (vertex_at old i) (vertex_at new i)

-- Vertex i fails, where no corner is missing: it moved, and a triangle, old or shrunk, is on the way.
unfoldable pub fails_in : List ℕ → ℕ → List ℕ → List ℕ → ℕ → Bool
unfolding way_back
fails_in tri t old new i =
    let ray = way_back (vertex_at old i) (vertex_at new i) in
    not (eq ray.length naught) && (not (none_to t (on_the_way tri t old i ray)) || not (none_to t (on_the_way tri t new i ray)))

-- It moved, to the point `shrunk`, and a triangle as it was is on the way: so much is known before the other vertices have moved.
unfoldable pub stopped_in : List ℕ → ℕ → List ℕ → Vec3 → ℕ → Bool
unfolding way_back
stopped_in tri t old shrunk i =
    let ray = way_back (vertex_at old i) shrunk in
    not (eq ray.length naught) && not (none_to t (on_the_way tri t old i ray))

-- The vertex of turn k: the hint first, then the others in their order. A hint that is none of the v vertices changes nothing.
abbrev pub turn_of : ℕ → ℕ → ℕ → ℕ
turn_of hint v k = cond (leb v hint) k (cond (eqb k 0) hint (cond (leb k hint) (k - 1) k))

-- What every margin's check has in common: whether a corner is missing, and where none is, the rows of the triangles as they are.
pub record Begun (tri : List ℕ) (t : ℕ) (old : List ℕ) (v : ℕ) (rows : List Float) (bad : Bool) : Type 0 where
  pub answer : bad ≡ missing_in tri t v
  pub filled : bad ≡ false → Filled tri t old rows t

-- What the check is lent: vertices, corners and rows that are there; and what each vertex's check asks: rows that are filled.
pub record Checkable (tri : List ℕ) (t : ℕ) (old new : List ℕ) (v : ℕ) (rows rows' : List Float) : Type 0 where
  pub old_rows : InRows tri rows t
  pub new_rows : InRows tri rows' t
  pub old_vertices : 3 * v ≤ length old
  pub new_vertices : 3 * v ≤ length new
  pub few_vertices : v ≤ 32768

pub record Ready (tri : List ℕ) (t : ℕ) (old new : List ℕ) (v : ℕ) (rows rows' : List Float) : Type 0 where
  pub lent : Checkable tri t old new v rows rows'
  pub old_filled : Filled tri t old rows t
  pub new_filled : Filled tri t new rows' t

-- What the check of a vertex against the triangles as they were asks.
pub record Stoppable (tri : List ℕ) (t : ℕ) (old new : List ℕ) (v : ℕ) (rows : List Float) : Type 0 where
  pub old_rows : InRows tri rows t
  pub old_vertices : 3 * v ≤ length old
  pub new_vertices : 3 * v ≤ length new
  pub few_vertices : v ≤ 32768
  pub old_filled : Filled tri t old rows t
