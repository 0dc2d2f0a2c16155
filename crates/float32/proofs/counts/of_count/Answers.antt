-- `counts::of_count` meets its contract: the cast is exact at every u16.
use lib.Ieee.{of_int}
use Rattle.float32.specs.Counts.{of_count}
use borrow.Author.Rules.{rules}
use Rattle.float32.proofs.counts.of_count.Goals as goal

pub returns : goal.returns
unfolding of_int of_count
returns c = search rules
