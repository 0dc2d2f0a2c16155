-- `little_endian::two_at` meets its contract: std's number of the bytes, each with its worth.
use Rattle.std.proofs.Common.{rules}
use Rattle.base.specs.LittleEndian.{le_at}
use Rattle.base.proofs.little_endian.two_at.Goals as goal

pub returns : goal.returns
unfolding le_at
returns c = search rules
