-- `vertices_at`: what its calls ensure.
use Rattle.float_boxes.proofs.vertices_at.Goals as goal

pub returns : goal.returns
returns c =
    λ i. record {
      a = c.four_floats-a.ensures i;
      b = c.four_floats-b.ensures i;
      c = c.four_floats-c.ensures i;
      d = c.four_floats-d.ensures i;
    }
