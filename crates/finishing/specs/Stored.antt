-- Vertices in units of a geometry's quantum, as lists (01, Prepare: "vertices and shrunk vertices as i16 triples and as the floats read back";
-- bounds.rs, prepare: quantise). Definitions only.
use Rattle.std.specs.Prelude.{ℕ, List}
use Rattle.corners.specs.Corners.{in_turn}
use Rattle.math.specs.declared.vec3.Vec3.{Vec3}
use Rattle.points.specs.Points.{vertex_at, words_of}
use Rattle.records.specs.declared.BoundVertex.{BoundVertex}
use Rattle.records.specs.Records.{vertex_bytes}
use Rattle.vertices.specs.Vertices.{stored_of, read_back_of}

-- Rule Q4 (`BoundVertex::from_vec`): vertex i of the words, stored by rule Q2.
unfoldable pub stored_at : Vec3 → List ℕ → ℕ → BoundVertex
stored_at quantum ws i = stored_of (vertex_at ws i) quantum

-- Rule Q4 (`bv.to_vec`): the float that is read back, by rule Q3.
unfoldable pub back_at : Vec3 → List ℕ → ℕ → Vec3
unfolding stored_at
back_at quantum ws i = read_back_of (stored_at quantum ws i) quantum

-- Rule Q4: v vertices as bytes, six each.
unfoldable pub stored_bytes : Vec3 → List ℕ → ℕ → List ℕ
unfolding stored_at
stored_bytes quantum ws v = in_turn v (λ i. vertex_bytes (stored_at quantum ws i))

-- Rule Q4: and read back, three words each.
unfoldable pub floats_of : Vec3 → List ℕ → ℕ → List ℕ
unfolding back_at
floats_of quantum ws v = in_turn v (λ i. words_of (back_at quantum ws i))
