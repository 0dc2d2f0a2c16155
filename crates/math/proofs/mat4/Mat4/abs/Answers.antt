-- `mat4::Mat4::abs` meets its contract: row by row what `abs_row` ensures.
use Rattle.math.specs.Transform.{abs_matrix}
use Rattle.math.proofs.mat4.Mat4.abs.Goals as goal

pub returns : goal.returns
unfolding abs_matrix
returns c = cc
