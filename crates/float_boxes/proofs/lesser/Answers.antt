-- `lesser`: what its calls ensure.
use Rattle.float_boxes.specs.Floats.{lesser_of}
use Rattle.float_boxes.proofs.lesser.Goals as goal

pub returns : goal.returns
unfolding lesser_of
returns c = λ i. record { vertex = c.vmin.ensures i; next = c.vmin-2.ensures i }
