-- Rule S7 at one margin (bounds.rs, calculate_verts_shrunk). Definitions only.
use Rattle.std.specs.Prelude.{Bool, Float}
use Rattle.rays.specs.Checks.{passes}
use Rattle.rings.specs.Meshes.{Mesh, by_margin}

-- Rule S7: a margin passes where the vertices that it moves pass rule S6.
abbrev pub passes_at : Mesh → Float → Bool
passes_at mesh margin = passes mesh.corners mesh.n mesh.vertices (by_margin mesh margin) mesh.v
