-- Rule T2 on one axis, for the box from lo to hi, and what is asked of lo and hi there. Definitions only.
use Rattle.std.specs.Prelude.{◌⊎◌, false, T, ℤ, pos, negsuc, Float}
use Rattle.std.specs.Float.{fin}
use Rattle.std.specs.Float.Ieee.{le, eq}
use Rattle.std.specs.Float.Ieee.Scale.{finite}
use Rattle.float32.specs.Casts.{limit}
use Rattle.float32.specs.Extremes.{vmax_of}
use Rattle.float32.specs.Signs.{abs_of}
use Rattle.math.specs.declared.axis.Axis.{Axis}
use Rattle.math.specs.declared.axis.Axis.TheVariants.{X, Y, Z}
use Rattle.math.specs.Transform.{half}
use Rattle.math.specs.Vec3s.{◌⊕◌, ◌⊖◌, ◌⊗◌, ◌⊘◌, one}
use Rattle.records.specs.declared.BoundVertex.{BoundVertex}

-- Rule T2 (01: cen = (min+max)·0.5).
abbrev pub centre : Float → Float → Float
centre lo hi = (lo ⊕ hi) ⊗ half

-- Rule T2 (01: q = vmax(|min−cen|, |max−cen|)).
abbrev pub extent : Float → Float → Float
extent lo hi = vmax_of (abs_of (lo ⊖ centre lo hi)) (abs_of (hi ⊖ centre lo hi))

-- Rule T2 (01: quantum q/32767, inverse 1/quantum), of the half extent q.
abbrev pub quantum_of : Float → Float
quantum_of q = q ⊘ limit

abbrev pub inverse_of : Float → Float
inverse_of q = one ⊘ quantum_of q

abbrev pub quantum : Float → Float → Float
quantum lo hi = quantum_of (extent lo hi)

abbrev pub inverse : Float → Float → Float
inverse lo hi = inverse_of (extent lo hi)

-- the axis of a quantised point
abbrev pub unit_on : Axis → BoundVertex → ℤ
unit_on X v = v.0
unit_on Y v = v.1
unit_on Z v = v.2

-- 2 ^ 100 and 2 ^ -100, and +0
abbrev pub largest : Float
largest = fin false 1 (pos 100)

abbrev pub smallest : Float
smallest = fin false 1 (negsuc 99)

abbrev pub nought : Float
nought = fin false 0 (pos 0)

-- What the pair asks of the box of all items, on the axis (request, point 3): finite, min at most max, no coordinate above 2 ^ 100 in size,
-- and the half extent 0 or at least 2 ^ -100.
pub record Measured (lo hi : Float) : Type 0 where
  pub low_finite : T (finite lo)
  pub high_finite : T (finite hi)
  pub in_order : T (le lo hi)
  pub low_size : T (le (abs_of lo) largest)
  pub high_size : T (le (abs_of hi) largest)
  pub extent_size : T (eq (extent lo hi) nought) ⊎ T (le smallest (extent lo hi))
