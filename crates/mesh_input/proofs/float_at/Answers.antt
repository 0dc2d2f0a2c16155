-- `float_at`: the float of a word.
use Rattle.mesh_input.specs.Input.{float_at}
use Rattle.mesh_input.proofs.float_at.Goals as goal

pub returns : goal.returns
unfolding float_at
returns c = cc
