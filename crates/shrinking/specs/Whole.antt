-- Rules S1 to S9 together (bounds.rs, calculate_verts_shrunk), and the start that rule S10 refuses. Definitions only.
use Rattle.std.specs.Prelude.{ℕ, Bool, List, ◌≡◌, Float, Option, Some, None}
use Rattle.std.specs.Float.{binary32}
use Rattle.std.specs.Float.Ieee.{of_bits, eq}
use Rattle.by_normals.specs.Normals.{Placed, placed_of, by_normals}
use Rattle.corners.specs.Corners.{corners_of}
use Rattle.sides.specs.Links.{links_of}
use Rattle.rings.specs.Meshes.{Mesh, mesh_of}
use Rattle.shrink.specs.declared.whole.Bound.{Bound}
use Rattle.shrink.specs.Margins.{start_of}
use Rattle.shrink.specs.Shrinking.{shrink_margin, shrunk_words}
use Rattle.shrinking.specs.declared.whole.Geometry.{Geometry}

-- the mesh of n records and v vertices. The links are rule E2's: those in the records do not matter.
abbrev pub mesh_in : ℕ → List ℕ → ℕ → List ℕ → Mesh
mesh_in n polygons v vertices = mesh_of (corners_of n polygons) (links_of (corners_of n polygons)) n vertices v

-- what rules S1 to S8 read of a geometry
abbrev pub bound_of : Geometry → Bound
bound_of g = record { extent = g.extent; center = g.center; margin = g.margin }

-- what rule S9 reads of a mesh and its geometry
abbrev pub placed_in : Geometry → Mesh → Placed
placed_in g mesh = placed_of mesh.corners mesh.vertices mesh.v g.center g.transform

-- Rules S8 and S9: moved by the margin that passes and clamped, or where none does by normals and the margin that is given.
abbrev pub shrunk_with : Geometry → Mesh → Option Float → List ℕ
shrunk_with g mesh (Some m) = shrunk_words (bound_of g) mesh m
shrunk_with g mesh None = by_normals (placed_in g mesh) mesh.n g.margin

-- Rules S1 to S9: the words of the shrunk vertices.
unfoldable pub shrunk_of : Geometry → Mesh → List ℕ
unfolding shrink_margin shrunk_words by_normals
shrunk_of g mesh = shrunk_with g mesh (shrink_margin (bound_of g) mesh)

-- The margin that passed, or that none did; and the shrunk vertices.
pub record ShrunkTo (g : Geometry) (mesh : Mesh) (points : List ℕ) (r : Option Float) : Type 0 where
  pub answer : r ≡ shrink_margin (bound_of g) mesh
  pub points_are : points ≡ shrunk_of g mesh

abbrev pub infinity : Float
infinity = of_bits binary32 0x7f80_0000

-- Rule S10 (01, Prepare, 7): the starting margin is +infinity.
unfoldable pub infinite_start : Geometry → Bool
unfolding start_of
infinite_start g = eq (start_of g.margin g.extent.min g.extent.max) infinity
