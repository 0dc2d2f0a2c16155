-- `boxes::value` meets its contract: the bits are no NaN's by what is required, else by the test.
use Rattle.float32.proofs.Patterns.{no_nan}
use Rattle.entries.proofs.boxes.value.Goals as goal

pub float_from_bits-result : goal.float_from_bits-result
float_from_bits-result c = no_nan c.args.word (c.requires c.if-plain.true)
