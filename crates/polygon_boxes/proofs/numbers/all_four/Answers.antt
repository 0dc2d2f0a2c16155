-- `numbers::all_four`: each test says so of its words.
use Rattle.polygon_boxes.proofs.NumberLaws.{both_true}
use Rattle.polygon_boxes.proofs.numbers.all_four.Goals as goal

pub returns : goal.returns
returns c = λ e.
    let t = both_true _ _ e in
    let n = c.all_three.ensures t.0 in
    (n.0, n.1, n.2, c.are_numbers.ensures t.1)
