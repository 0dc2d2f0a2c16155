-- `number_box`: on each axis the extremes of three words that are no NaN's.
use Rattle.polygon_boxes.specs.Boxes.{three_box}
use Rattle.polygon_boxes.proofs.number_box.Goals as goal

pub returns : goal.returns
unfolding three_box
returns c =
    λ i. record {
      min = record { x = c.low3.ensures i; y = c.low3-2.ensures i; z = c.low3-3.ensures i };
      max = record { x = c.high3.ensures i; y = c.high3-2.ensures i; z = c.high3-3.ensures i };
    }
