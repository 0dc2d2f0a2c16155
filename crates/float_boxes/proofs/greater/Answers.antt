-- `greater`: what its calls ensure.
use Rattle.float_boxes.specs.Floats.{greater_of}
use Rattle.float_boxes.proofs.greater.Goals as goal

pub returns : goal.returns
unfolding greater_of
returns c = λ i. record { vertex = c.vmax.ensures i; next = c.vmax-2.ensures i }
