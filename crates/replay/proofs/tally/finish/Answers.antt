-- `tally::finish` meets its contract: one more at place 0 where a line was begun.
use Rattle.std.proofs.Common.{le-ltb, lt-ltb}
use Rattle.replay.proofs.tally.finish.Goals as goal

pub returns-then-at-gt0 : goal.returns-then-at-gt0
returns-then-at-gt0 c =
    rw (lt-ltb 0 c.args.at c.if-at-gt0.true) c.bump.ensures

pub returns-else-at-gt0 : goal.returns-else-at-gt0
returns-else-at-gt0 c = rw (le-ltb 0 c.args.at c.if-at-gt0.false)
