-- `halves::halves_at` meets its contract: field by field what the calls ensure.
use Rattle.polygon.specs.Halves.{halves_at}
use Rattle.polygon.proofs.halves.halves_at.Goals as goal

pub returns : goal.returns
unfolding halves_at
returns c = cc
