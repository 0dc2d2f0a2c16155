-- `casts::to_short` meets its contract: the two casts, one after the other.
use Rattle.std.proofs.Common.{rules}
use Rattle.float32.specs.Casts.{short_of}
use Rattle.float32.proofs.casts.to_short.Goals as goal

pub returns : goal.returns
unfolding short_of
returns c = search rules
