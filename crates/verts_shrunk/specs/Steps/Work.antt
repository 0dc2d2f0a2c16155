-- What shrinking records asks of the slices that it is lent. Definitions only.
use Rattle.std.specs.Prelude.{ℕ, ◌+◌, ◌*◌, ◌≤◌, List, ◌≡◌, Float, length}

-- What the records, the vertices and the buffers have to be, once no check refuses.
pub record Lent (n : ℕ) (polygons : List ℕ) (v : ℕ) (vertices points corners tri firsts spare links : List ℕ) (normals olds news : List Float)
    : Type 0 where
  pub few : n ≤ 32767
  pub few_vertices : v ≤ 32768
  pub records : 16 * n ≤ length polygons
  pub vertices_in : 3 * v ≤ length vertices
  pub size : length points ≡ 3 * v
  pub corners_room : 3 * n ≤ length corners
  pub tri_room : 3 * n ≤ length tri
  pub firsts_room : 3 * n + v ≤ length firsts
  pub spare_room : 3 * n ≤ length spare
  pub links_room : 3 * n ≤ length links
  pub normals_room : 3 * n ≤ length normals
  pub olds_room : 9 * n ≤ length olds
  pub news_room : 9 * n ≤ length news
