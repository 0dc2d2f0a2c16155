-- `numbers::all_three`: each test says so of its words.
use Rattle.polygon_boxes.proofs.NumberLaws.{three_true}
use Rattle.polygon_boxes.proofs.numbers.all_three.Goals as goal

pub returns : goal.returns
returns c = λ e.
    let t = three_true _ _ _ e in
    (c.are_numbers.ensures t.0, c.are_numbers-2.ensures t.1, c.are_numbers-3.ensures t.2)
