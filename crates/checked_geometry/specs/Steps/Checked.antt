-- What is asked where a mesh of kind 4 has passed the checks. Definitions only.
use Rattle.std.specs.Prelude.{◌≡◌, Ok}
use Rattle.meshes.specs.declared.BvhLengths.{BvhLengths}
use Rattle.meshes.specs.Checks.{geometry_check}
use Rattle.meshes.specs.Meshes.{Mesh, materials_of}
use Rattle.prepared.specs.Answers.{Lists, Hull, GeometryWork, geometry_lengths}

-- The mesh passes the checks of kind 4.
pub record Checked (g : Mesh) (b : Lists) (h : Hull) (w : GeometryWork) (others : BvhLengths) : Type 0 where
  pub passed : Ok tt ≡ geometry_check g.bound g.counts (geometry_lengths g b h w others) g.polygons (materials_of g)
