-- What the sums ask, and how they lie in the points: three words a vertex. Definitions only.
use Rattle.std.specs.Prelude.{ℕ, ◌*◌, ◌≤◌, ◌<◌, List, ◌≡◌, length}
use Rattle.points.specs.Points.{vertex_at}
use Rattle.by_normals.specs.Normals.{Placed, sum_at}

-- The corners of n polygons and the vertices are there, and the points have room for just the vertices.
pub record Placeable (g : Placed) (n : ℕ) (points : List ℕ) : Type 0 where
  pub corners_in : 3 * n ≤ length g.corners
  pub few : n < 32768
  pub vertices_in : 3 * g.v ≤ length g.vertices
  pub size : length points ≡ 3 * g.v

-- The points hold the sums of the first m sides.
pub record Sums (g : Placed) (m : ℕ) (points : List ℕ) : Type 0 where
  pub sums : (i : ℕ) → i < g.v → vertex_at points i ≡ sum_at g i m
