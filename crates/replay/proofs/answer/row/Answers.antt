-- `answer::row` meets its contract: a point, and the word after it.
use Rattle.std.proofs.Common.{ap₂}
use lib.Ieee.{Float}
use Rattle.math.specs.declared.vec3.Vec3.{Vec3}
use Rattle.math.specs.declared.mat4.Vec4.{Vec4}
use Rattle.replay.proofs.answer.row.Goals as goal

abbrev row : Vec3 → Float → Vec4
row p w = record { x = p.x; y = p.y; z = p.z; w = w }

pub value-requires : goal.value-requires
value-requires c = tt

pub returns : goal.returns
returns c = ap₂ row c.point-first.ensures c.value.ensures
