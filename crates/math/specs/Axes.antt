-- One axis of a point, so that what holds of each axis is said once. Definitions only.
use Rattle.std.specs.Prelude.{ℕ, Float}
use Rattle.math.specs.declared.vec3.Vec3.{Vec3}
use Rattle.math.specs.declared.words3.Words3.{Words3}
use Rattle.math.specs.declared.axis.Axis.{Axis}
use Rattle.math.specs.declared.axis.Axis.TheVariants.{X, Y, Z}

-- the coordinate of a point, and the word of a stored one
abbrev pub coordinate : Axis → Vec3 → Float
coordinate X v = v.x
coordinate Y v = v.y
coordinate Z v = v.z

abbrev pub word_on : Axis → Words3 → ℕ
word_on X w = w.x
word_on Y w = w.y
word_on Z w = w.z
