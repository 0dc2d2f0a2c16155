-- Rule K6 (01, Prepare: "Kind 4 shrinks and fills octants"; bounds.rs, prepare: calculate_verts_shrunk, calculate_octants): what only kind 4 has.
-- Without vertices there are no shrunk ones, and eight empty octants. Definitions only.
use Rattle.std.specs.Prelude.{ℕ, ◌*◌, cond, List, [], ◌++◌, drop, ◌==◌}
use Rattle.finishing.specs.Stored.{stored_bytes, floats_of}
use Rattle.math.specs.declared.vec3.Vec3.{Vec3}
use Rattle.meshes.specs.declared.Bound.{Bound}
use Rattle.meshes.specs.Meshes.{geometry_of}
use Rattle.octants.specs.Octants.{parts}
use Rattle.shadows.specs.Octants.{octant_of}
use Rattle.shrinking.specs.Whole.{mesh_in, shrunk_of}

-- Rules S1 to S9: the words of the shrunk vertices, before they are stored.
unfoldable pub shrunk_points : Bound → ℕ → ℕ → List ℕ → List ℕ → List ℕ
unfolding shrunk_of
shrunk_points b p v polygons vertices = shrunk_of (geometry_of b) (mesh_in p polygons v vertices)

-- Rule K6 (01: "Vertices, shrunk ones too, are quantised last, after the octants"): stored by rule Q4, in units of the geometry's quantum.
unfoldable pub shrunk_bytes : Bound → ℕ → ℕ → Vec3 → List ℕ → List ℕ → List ℕ
unfolding shrunk_points stored_bytes
shrunk_bytes b p v quantum polygons vertices = cond (v == 0) [] (stored_bytes quantum (shrunk_points b p v polygons vertices) v)

unfoldable pub shrunk_floats : Bound → ℕ → ℕ → Vec3 → List ℕ → List ℕ → List ℕ
unfolding shrunk_points floats_of
shrunk_floats b p v quantum polygons vertices = cond (v == 0) [] (floats_of quantum (shrunk_points b p v polygons vertices) v)

-- Rule K6: the list of octant o (rule O2), over the shrunk vertices before they are stored.
unfoldable pub shrunk_octant : Bound → ℕ → ℕ → List ℕ → List ℕ → ℕ → List ℕ
unfolding shrunk_points
shrunk_octant b p v polygons vertices o = cond (v == 0) [] (octant_of o (shrunk_points b p v polygons vertices) v)

-- what the buffer of the eight lists then holds: list k from word k · v on (rule O2)
unfoldable pub octants_left : (ℕ → List ℕ) → ℕ → List ℕ → List ℕ
octants_left list v before = parts list v 8 before ++ drop (8 * v) before
