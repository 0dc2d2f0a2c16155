-- `mat4::Mat4::transform_vector` meets its contract: the definition has the code's own steps in its order.
use borrow.Author.Rules.{rules}
use Rattle.math.specs.Transform.{vector_of}
use Rattle.math.proofs.mat4.Mat4.transform_vector.Goals as goal

pub returns : goal.returns
unfolding vector_of
returns c = search rules
