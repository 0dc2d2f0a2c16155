-- Vertices in words, three a vertex, and where they stand in the world (bounds.rs, vertex_pos). Definitions only.
use Rattle.std.specs.Prelude.{ℕ, ◌+◌, ◌*◌, List, [], ◌∷◌, get_or}
use Rattle.std.specs.Float.{binary32}
use Rattle.std.specs.Float.Ieee.{to_bits}
use Rattle.corners.specs.Corners.{in_turn}
use Rattle.math.specs.declared.mat4.Mat4.{Mat4}
use Rattle.math.specs.declared.vec3.Vec3.{Vec3}
use Rattle.math.specs.Stored.{values_of}
use Rattle.math.specs.Transform.{point_of, xyz}
use Rattle.math.specs.Vec3s.{add_of}

-- vertex number i
abbrev pub vertex_at : List ℕ → ℕ → Vec3
vertex_at ws i = values_of (record { x = get_or ws (3 * i) 0; y = get_or ws (3 * i + 1) 0; z = get_or ws (3 * i + 2) 0 })

-- the words of a vertex
abbrev pub words_of : Vec3 → List ℕ
words_of p = to_bits binary32 p.x ∷ to_bits binary32 p.y ∷ to_bits binary32 p.z ∷ []

-- Rule K1 (bounds.rs, vertex_pos): the vertex plus the centre, through the transform; its w is dropped.
unfoldable pub pos_of : Mat4 → Vec3 → List ℕ → ℕ → Vec3
unfolding point_of
pos_of transform center ws i = xyz (point_of transform (add_of (vertex_at ws i) center))

-- Rule K1, of v vertices.
unfoldable pub positions_of : Mat4 → Vec3 → List ℕ → ℕ → List ℕ
unfolding pos_of
positions_of transform center ws v = in_turn v (λ i. words_of (pos_of transform center ws i))
