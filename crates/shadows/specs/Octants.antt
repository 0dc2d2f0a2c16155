-- The list of an octant, over stored vertices: three words each. Definitions only.
use Rattle.std.specs.Prelude.{ℕ, ◌+◌, ◌*◌, Bool, List, get_or}
use Rattle.math.specs.declared.vec3.Vec3.{Vec3}
use Rattle.math.specs.declared.words3.Words3.{Words3}
use Rattle.math.specs.Stored.{values_of}
use Rattle.shadows.specs.Shadows.{flip_of, shadowed_by}
use Rattle.shadows.specs.Kept.{kept_of}

-- the three words of vertex i, and the point that they stand for
abbrev pub words_at : List ℕ → ℕ → Words3
words_at ws i = record { x = get_or ws (3 * i) 0; y = get_or ws (3 * i + 1) 0; z = get_or ws (3 * i + 2) 0 }

abbrev pub vertex_at : List ℕ → ℕ → Vec3
vertex_at ws i = values_of (words_at ws i)

-- vertex i is shadowed by vertex j, in the direction given
unfoldable pub shadowed_in : Vec3 → List ℕ → ℕ → ℕ → Bool
unfolding shadowed_by
shadowed_in flip ws i j = shadowed_by flip (vertex_at ws i) (vertex_at ws j)

-- Rule O2 (01, Octants; bounds.rs, calculate_octants): the list of octant o over n vertices.
abbrev pub octant_of : ℕ → List ℕ → ℕ → List ℕ
octant_of o ws n = kept_of (shadowed_in (flip_of o) ws) n
