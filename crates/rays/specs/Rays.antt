-- Rule S6's ray (bounds.rs, ray_triangle and the closure `hits`): where it meets a triangle's plane, and whether that is a hit. Definitions only.
use Rattle.std.specs.Prelude.{Bool, not, ◌&&◌, Float}
use Rattle.std.specs.Float.{binary32}
use Rattle.std.specs.Float.Ieee.{of_bits, lt, le}
use Rattle.float32.specs.Signs as Signs
use Rattle.math.specs.declared.vec3.Vec3.{Vec3}
use Rattle.math.specs.Vec3s.{◌⊕◌, ◌⊗◌, ◌⊘◌, one, tolerance, sub_of, dot_of, cross_of}
use Rattle.rays.specs.declared.rays.Ray.{Ray}
use Rattle.rays.specs.declared.rays.Facet.{Facet}
use Rattle.rays.specs.declared.rays.Meeting.{Meeting}

abbrev pub naught : Float
naught = of_bits binary32 0

-- a triangle by its first corner and the two sides from there
abbrev pub facet_of : Vec3 → Vec3 → Vec3 → Facet
facet_of a b c = record { corner = a; side1 = sub_of b a; side2 = sub_of c a }

-- Where the ray meets the plane: the determinant, the place in the triangle, and the distance.
unfoldable pub meeting_of : Facet → Ray → Meeting
meeting_of f ray =
    let k = cross_of ray.dir f.side2 in
    let det = dot_of f.side1 k in
    let w = sub_of ray.pos f.corner in
    let q = cross_of w f.side1 in
    record {
      det = det;
      u = dot_of w k ⊗ (one ⊘ det);
      v = dot_of ray.dir q ⊗ (one ⊘ det);
      t = dot_of f.side2 q ⊗ (one ⊘ det);
    }

-- the tests on u alone, and those on what follows it
abbrev pub within : Float → Bool
within u = le naught u && le u one

abbrev pub ahead : Meeting → Float → Bool
ahead m length = (not (lt m.v naught) && not (lt one (m.u ⊕ m.v))) && (not (lt m.t naught) && le m.t length)

-- Rule S6: a NaN in det or v passes its test, a NaN in u or t does not.
abbrev pub strikes : Meeting → Float → Bool
strikes m length = not (lt (Signs.abs_of m.det) tolerance) && (within m.u && ahead m length)

unfoldable pub hits : Ray → Facet → Bool
unfolding meeting_of
hits ray f = strikes (meeting_of f ray) ray.length
