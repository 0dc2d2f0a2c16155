-- What a trial asks of the slices that it is lent, and what it leaves. Definitions only.
use Rattle.std.specs.Prelude.{ℕ, ◌*◌, Bool, true, false, List, ◌≡◌, length, Float}
use Rattle.rays.specs.Steps.Checking.{Begun, Checkable, moved_in}
use Rattle.rays.specs.Steps.Counting.{none_to}
use Rattle.rays.specs.Steps.Rows.{InRows, Laid}
use Rattle.rings.specs.Meshes.{Mesh, by_margin}
use Rattle.rings.specs.Steps.Gathering.{Movable}
use Rattle.trial.specs.Trials.{passes_at}

-- What a trial asks: the mesh's t triangles in rows, what moving and checking ask, and whether a triangle has a corner past the vertices.
pub record Tryable (mesh : Mesh) (bad : Bool) (tri : List ℕ) (t : ℕ) (firsts : List ℕ) (normals olds : List Float) (ring : List ℕ)
    (ns news : List Float) (points : List ℕ) : Type 0 where
  pub movable : Movable mesh firsts normals ring ns
  pub laid : Laid mesh.corners mesh.n tri t
  pub checkable : Checkable tri t mesh.vertices points mesh.v olds news
  pub begun : Begun tri t mesh.vertices mesh.v olds bad
  pub size : length points ≡ 3 * mesh.v

-- What is asked of it to move and check one vertex alone, where no triangle has a corner past the vertices.
pub record OneTryable (mesh : Mesh) (tri : List ℕ) (t : ℕ) (firsts : List ℕ) (normals olds : List Float) (ring : List ℕ) (ns : List Float)
    (points : List ℕ) : Type 0 where
  pub movable : Movable mesh firsts normals ring ns
  pub laid : Laid mesh.corners mesh.n tri t
  pub rows : InRows tri olds t
  pub begun : Begun tri t mesh.vertices mesh.v olds false
  pub size : length points ≡ 3 * mesh.v

-- What a trial leaves: the answer, and the vertices that it was given for, where they pass.
pub record Tried (mesh : Mesh) (margin : Float) (points : List ℕ) (r : Bool) : Type 0 where
  pub answer : r ≡ passes_at mesh margin
  pub points_are : r ≡ true → points ≡ by_margin mesh margin

-- Whether the margin moves no vertex, and the vertices, where it moves none.
pub record Stayed (mesh : Mesh) (margin : Float) (points : List ℕ) (r : Bool) : Type 0 where
  pub answer : r ≡ none_to mesh.v (moved_in mesh.vertices (by_margin mesh margin))
  pub points_are : r ≡ true → points ≡ by_margin mesh margin
