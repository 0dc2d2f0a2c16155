-- `are_numbers`: each test says so of its word.
use Rattle.polygon_boxes.proofs.NumberLaws.{three_true}
use Rattle.polygon_boxes.proofs.numbers.are_numbers.Goals as goal

pub returns : goal.returns
returns c = λ e.
    let t = three_true _ _ _ e in
    (c.is_number.ensures t.0, c.is_number-2.ensures t.1, c.is_number-3.ensures t.2)
