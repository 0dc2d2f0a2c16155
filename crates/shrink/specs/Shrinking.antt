-- Rules S1 to S8 together (bounds.rs, calculate_verts_shrunk). Definitions only.
use Rattle.std.specs.Prelude.{ℕ, List, ◌≡◌, Float, Option, Some}
use Rattle.rings.specs.Meshes.{Mesh, by_margin}
use Rattle.shrink.specs.declared.whole.Bound.{Bound}
use Rattle.shrink.specs.Clamping.{inset_of, clamped_words}
use Rattle.shrink.specs.Margins.{start_of}
use Rattle.shrink.specs.Searching.{margin_of}

-- Rules S1 and S7: the margin that the vertices of a bound are shrunk by, if one passes.
unfoldable pub shrink_margin : Bound → Mesh → Option Float
unfolding start_of
shrink_margin bound mesh = margin_of mesh (start_of bound.margin bound.extent.min bound.extent.max)

-- Rule S8: the vertices, moved by the margin and clamped.
unfoldable pub shrunk_words : Bound → Mesh → Float → List ℕ
unfolding clamped_words inset_of
shrunk_words bound mesh margin = clamped_words (inset_of bound.extent bound.center margin) (by_margin mesh margin) mesh.v

-- Rules S1 to S8: the answer, and the shrunk vertices where a margin passes. Where none does they are rule S9's.
pub record Shrunk (bound : Bound) (mesh : Mesh) (points : List ℕ) (r : Option Float) : Type 0 where
  pub answer : r ≡ shrink_margin bound mesh
  pub points_are : (margin : Float) → r ≡ Some margin → points ≡ shrunk_words bound mesh margin
