-- `least`: what its calls ensure, one after the other.
use Rattle.float_boxes.specs.Floats.{lesser_of}
use Rattle.float_boxes.proofs.FoldLaws.{corner}
use Rattle.float_boxes.proofs.least.Goals as goal

pub returns : goal.returns
returns c =
    corner lesser_of _ c.lesser.ensures c.lesser-2.ensures c.lesser-3.ensures c.moved.ensures
