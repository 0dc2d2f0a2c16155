-- Vertices in units of a geometry's quantum (01, Prepare: vertices are quantised last; bounds.rs, calculate_quantum, BoundVertex). Definitions only.
use Rattle.std.specs.Prelude.{ℤ, Float}
use Rattle.std.specs.Float.{binary32}
use Rattle.std.specs.Float.Ieee.{of_int}
use Rattle.float32.specs.Casts.{limit, vertex_of}
use Rattle.math.specs.Transform.{half}
use Rattle.math.specs.Vec3s.{◌⊖◌, ◌⊗◌, ◌⊘◌, both}
use Rattle.math.specs.declared.aabb.Aabb.{Aabb}
use Rattle.math.specs.declared.vec3.Vec3.{Vec3}
use Rattle.records.specs.declared.BoundVertex.{BoundVertex}

-- Rule Q1 (bounds.rs, calculate_quantum): half of what the box measures on an axis, in 32767 parts.
abbrev pub quantum_on : Float → Float → Float
quantum_on lo hi = ((hi ⊖ lo) ⊗ half) ⊘ limit

unfoldable pub quantum_of_box : Aabb → Vec3
quantum_of_box b = both quantum_on b.min b.max

-- Rule Q2 (bounds.rs, BoundVertex::from_vec): rule F9 of the point in units of the quantum.
unfoldable pub stored_of : Vec3 → Vec3 → BoundVertex
stored_of v q = record { 0 = vertex_of (v.x ⊘ q.x); 1 = vertex_of (v.y ⊘ q.y); 2 = vertex_of (v.z ⊘ q.z) }

-- Rule Q3 (bounds.rs, BoundVertex::to_vec): the float of each number, times the quantum.
abbrev pub units_of : ℤ → Float → Float
units_of n q = of_int binary32 n ⊗ q

unfoldable pub read_back_of : BoundVertex → Vec3 → Vec3
read_back_of v q = record { x = units_of v.0 q.x; y = units_of v.1 q.y; z = units_of v.2 q.z }
