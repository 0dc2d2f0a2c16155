-- `aabb::transform_box` meets its contract: the two images' difference and sum.
use Rattle.math.specs.Transform.{transform_box}
use Rattle.math.proofs.aabb.transform_box.Goals as goal

pub returns : goal.returns
unfolding transform_box
returns c = cc
