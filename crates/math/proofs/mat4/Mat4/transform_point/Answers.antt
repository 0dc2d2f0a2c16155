-- `mat4::Mat4::transform_point` meets its contract: the definition has the code's own steps in its order.
use borrow.Author.Rules.{rules}
use Rattle.math.specs.Transform.{point_of}
use Rattle.math.proofs.mat4.Mat4.transform_point.Goals as goal

pub returns : goal.returns
unfolding point_of
returns c = search rules
