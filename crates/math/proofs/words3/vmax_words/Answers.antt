-- `words3::vmax_words` meets its contract: axis by axis what `vmax_word` ensures.
use Rattle.math.proofs.words3.vmax_words.Goals as goal

pub returns : goal.returns
returns c = cc
