-- `writing::round_halves` meets its contract: field by field what the calls ensure.
use Rattle.polygon.specs.Polygons.{round_halves}
use Rattle.polygon.proofs.writing.round_halves.Goals as goal

pub returns : goal.returns
unfolding round_halves
returns c = cc
