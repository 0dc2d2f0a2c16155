-- A mesh that is within its limits. Definitions only.
use Rattle.std.specs.Prelude.{ℕ, ◌*◌, ◌≤◌, List, ◌≡◌, length}
use Rattle.meshes.specs.declared.Counts.{Counts}
use Rattle.meshes.specs.declared.Lengths.{Lengths}

-- So few that no size of a buffer is out of a number's range.
pub record Few (c : Counts) : Type 0 where
  pub polygons_few : c.polygons ≤ 32767
  pub materials_few : c.materials ≤ 256
  pub vertices_few : c.vertices ≤ 32768

-- The lengths are those of the lists.
pub record Measured (l : Lengths) (polygons numbers mats : List ℕ) : Type 0 where
  pub polygons_are : l.polygons ≡ length polygons
  pub numbers_are : l.numbers ≡ length numbers
  pub mats_are : l.mats ≡ length mats

-- What is read of a mesh is there.
pub record Readable (c : Counts) (polygons numbers mats : List ℕ) : Type 0 where
  pub few : Few c
  pub records : 16 * c.polygons ≤ length polygons
  pub numbered : c.polygons ≤ length numbers
  pub given : 2 * c.materials ≤ length mats
