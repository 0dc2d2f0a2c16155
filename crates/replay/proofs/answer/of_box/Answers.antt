-- `answer::of_box` meets its contract: what the calls ensure, one after the other.
use Rattle.std.proofs.Common.{ap, ◌∙◌, ap₂}
use Rattle.math.specs.Transform.{transform_box}
use Rattle.math.specs.declared.vec3.Vec3.{Vec3}
use Rattle.math.specs.declared.aabb.Aabb.{Aabb}
use Rattle.replay.specs.Answers.{six}
use Rattle.replay.proofs.answer.of_box.Goals as goal

abbrev corners : Vec3 → Vec3 → Aabb
corners a b = record { min = a; max = b }

pub transform_box-requires : goal.transform_box-requires
transform_box-requires c = tt

pub six-requires : goal.six-requires
six-requires c = tt

pub returns : goal.returns
returns c =
    let box_is = ap₂ corners c.point.ensures c.point-2.ensures in
    c.six.ensures ∙ ap six (c.transform_box.ensures ∙ ap₂ transform_box box_is c.matrix.ensures)
