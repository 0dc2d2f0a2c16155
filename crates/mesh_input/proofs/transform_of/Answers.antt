-- `transform_of`: four rows.
use Rattle.mesh_input.specs.Input.{transform_of}
use Rattle.mesh_input.proofs.transform_of.Goals as goal

pub returns : goal.returns
unfolding transform_of
returns c = λ i. record {
  row0 = c.row_at.ensures i;
  row1 = c.row_at-2.ensures i;
  row2 = c.row_at-3.ensures i;
  row3 = c.row_at-4.ensures i;
}
