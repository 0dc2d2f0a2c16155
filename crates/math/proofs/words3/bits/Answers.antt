-- `words3::bits` meets its contract: each word is what `bits` ensures of its axis.
use Rattle.math.proofs.words3.bits.Goals as goal

pub returns : goal.returns
returns c = cc
