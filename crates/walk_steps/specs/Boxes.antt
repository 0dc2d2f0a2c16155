-- Which boxes meet. Definitions only.
use Rattle.std.specs.Prelude.{Bool, ◌&&◌}
use Rattle.std.specs.Float.Ieee.{le}
use Rattle.std.specs.Int.Signed.{le_z}
use Rattle.math.specs.declared.aabb.Aabb.{Aabb}
use Rattle.math.specs.declared.vec3.Vec3.{Vec3}
use Rattle.records.specs.Quantise.{quantise_query_of}
use Rattle.records.specs.declared.BoundVertex.{BoundVertex}
use Rattle.walk_steps.specs.declared.boxes.Query.{Query}

-- Rule W1 (01, Walk: quantise the query corners).
unfoldable pub query_of : Aabb → Vec3 → Vec3 → Query
query_of b cen inverse =
    record { min = quantise_query_of b.min cen inverse; max = quantise_query_of b.max cen inverse }

-- Rule W2 (01, Walk: on each axis each min is at most the other max), on one axis.
abbrev pub overlap : {A : Type 0} → (A → A → Bool) → A → A → A → A → Bool
overlap at_most min max min' max' = at_most min max' && at_most min' max

-- Rule W2 (01: item boxes and the query are compared as floats).
unfoldable pub meets_box : Aabb → Aabb → Bool
meets_box a b =
    overlap le a.min.x a.max.x b.min.x b.max.x
    && (overlap le a.min.y a.max.y b.min.y b.max.y
    && overlap le a.min.z a.max.z b.min.z b.max.z)

-- Rule W2 (01: records and the quantised query as integers): the query and the box from min to max.
unfoldable pub meets : Query → BoundVertex → BoundVertex → Bool
meets q min max =
    overlap le_z q.min.0 q.max.0 min.0 max.0
    && (overlap le_z q.min.1 q.max.1 min.1 max.1
    && overlap le_z q.min.2 q.max.2 min.2 max.2)
