-- `mat4::abs_row` meets its contract: component by component what `float32::signs::abs` ensures.
use Rattle.math.proofs.mat4.abs_row.Goals as goal

pub returns : goal.returns
returns c = cc
