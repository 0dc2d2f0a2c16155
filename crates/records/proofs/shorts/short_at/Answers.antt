-- `shorts::short_at` meets its contract: std's number of the two bytes.
use Rattle.std.proofs.Common.{rules}
use Rattle.base.specs.LittleEndian.{le_at}
use Rattle.records.specs.Shorts.{short_at}
use Rattle.records.proofs.shorts.short_at.Goals as goal

pub returns : goal.returns
unfolding short_at le_at
returns c = search rules
