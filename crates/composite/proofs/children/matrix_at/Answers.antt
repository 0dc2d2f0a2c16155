-- `matrix_at` meets its contract: four rows.
use Rattle.composite.specs.Children.{matrix_at}
use Rattle.composite.proofs.children.matrix_at.Goals as goal

pub returns : goal.returns
unfolding matrix_at
returns c =
    λ i. record {
      row0 = c.row_at.ensures i;
      row1 = c.row_at-2.ensures i;
      row2 = c.row_at-3.ensures i;
      row3 = c.row_at-4.ensures i;
    }
