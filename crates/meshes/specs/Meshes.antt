-- A mesh that is given to be prepared. Definitions only.
use Rattle.std.specs.Prelude.{ℕ, List}
use Rattle.materials.specs.Materials.{values_of}
use Rattle.math.specs.declared.aabb.Aabb.{Aabb}
use Rattle.math.specs.Stored as Stored
use Rattle.shrinking.specs.declared.whole.Geometry.{Geometry}
use Rattle.meshes.specs.declared.Bound.{Bound}
use Rattle.meshes.specs.declared.Counts.{Counts}
use Rattle.meshes.specs.declared.Frame.{Frame}

-- Polygons are records of 16 bytes, with the number of each one's material beside; materials and vertices are words, two and three each.
pub record Mesh : Type 0 where
  pub bound : Bound
  pub counts : Counts
  pub polygons : List ℕ
  pub numbers : List ℕ
  pub mats : List ℕ
  pub vertices : List ℕ

abbrev pub mesh_of : Bound → Counts → List ℕ → List ℕ → List ℕ → List ℕ → Mesh
mesh_of bound counts polygons numbers mats vertices =
    record { bound = bound; counts = counts; polygons = polygons; numbers = numbers; mats = mats; vertices = vertices }

-- a frame's box as floats
abbrev pub box_of : Frame → Aabb
box_of f = record { min = Stored.values_of f.box_min; max = Stored.values_of f.box_max }

-- the material of each given polygon (rule M1)
abbrev pub materials_of : Mesh → List ℕ
materials_of g = values_of g.counts.materials g.mats g.counts.polygons g.numbers

-- what shrinking reads of a bound
abbrev pub geometry_of : Bound → Geometry
geometry_of b = record { extent = box_of b.frame; center = b.center; margin = b.margin; transform = b.transform }
