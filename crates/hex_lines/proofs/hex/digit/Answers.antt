-- `hex::digit`: the test is the definition's.
use borrow.Author.Tests.{lt-ltb, le-ltb}
use Rattle.hex_lines.proofs.hex.digit.Goals as goal

pub returns-then-n-lt10 : goal.returns-then-n-lt10
returns-then-n-lt10 c = rw (lt-ltb _ _ c.if-n-lt10.true)

pub returns-else-n-lt10 : goal.returns-else-n-lt10
returns-else-n-lt10 c = rw (le-ltb _ _ c.if-n-lt10.false)
