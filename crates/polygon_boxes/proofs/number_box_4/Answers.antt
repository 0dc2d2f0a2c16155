-- `number_box_4`: on each axis the extremes of four words that are no NaN's.
use Rattle.polygon_boxes.specs.Boxes.{four_box}
use Rattle.polygon_boxes.proofs.number_box_4.Goals as goal

pub returns : goal.returns
unfolding four_box
returns c =
    λ i. record {
      min = record { x = c.low4.ensures i; y = c.low4-2.ensures i; z = c.low4-3.ensures i };
      max = record { x = c.high4.ensures i; y = c.high4-2.ensures i; z = c.high4-3.ensures i };
    }
