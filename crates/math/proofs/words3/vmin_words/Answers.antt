-- `words3::vmin_words` meets its contract: axis by axis what `vmin_word` ensures.
use Rattle.math.proofs.words3.vmin_words.Goals as goal

pub returns : goal.returns
returns c = cc
