-- `row_at`: four floats, each where it stands.
use Rattle.mesh_input.specs.Input.{row_at}
use Rattle.mesh_input.proofs.row_at.Goals as goal

pub returns : goal.returns
unfolding row_at
returns c = λ i. record {
  x = c.float_at.ensures i;
  y = c.float_at-2.ensures i;
  z = c.float_at-3.ensures i;
  w = c.float_at-4.ensures i;
}
