-- `three_box` meets its contract: either way makes the same box.
use Rattle.polygon_boxes.proofs.three_box.Goals as goal

pub number_box-requires : goal.number_box-requires
number_box-requires c = c.all_three.ensures c.if-all_three.true
