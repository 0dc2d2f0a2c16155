-- `words3::values` meets its contract: each float is what `value` ensures of its word.
use Rattle.math.proofs.words3.values.Goals as goal

pub returns : goal.returns
returns c = cc
