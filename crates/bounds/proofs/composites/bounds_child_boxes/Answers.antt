-- `bounds_child_boxes` meets its contract: the answer by its number.
use Rattle.composite.proofs.BoxLaws.{numbered}
use Rattle.bounds.proofs.composites.bounds_child_boxes.Goals as goal

pub returns : goal.returns
returns c =
    numbered _ _ _ _ _ _ c.child_boxes.ensures c.number.ensures
