-- `refused_by` meets its contract: the number, and zeros.
use lib.Ieee.{of_bits}
use Rattle.prepare_answers.proofs.refused_by.Goals as goal

pub returns : goal.returns
unfolding of_bits
returns c = rw (c.no_frame.ensures, c.without.ensures, c.refused.ensures)
