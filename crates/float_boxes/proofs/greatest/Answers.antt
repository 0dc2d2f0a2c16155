-- `greatest`: what its calls ensure, one after the other.
use Rattle.float_boxes.specs.Floats.{greater_of}
use Rattle.float_boxes.proofs.FoldLaws.{corner}
use Rattle.float_boxes.proofs.greatest.Goals as goal

pub returns : goal.returns
returns c =
    corner greater_of _ c.greater.ensures c.greater-2.ensures c.greater-3.ensures c.moved.ensures
