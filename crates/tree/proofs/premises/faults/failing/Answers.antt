-- `faults::failing` meets its contract: the tests are the definition's, in its order.
use Rattle.tree.specs.premises.Faults.{failing}
use Rattle.tree.proofs.premises.faults.failing.Goals as goal

pub returns-then-z : goal.returns-then-z
unfolding failing
returns-then-z c = rw (c.if-x.true, c.if-y.true, c.if-z.true)

pub returns-else-z : goal.returns-else-z
unfolding failing
returns-else-z c = rw (c.if-x.true, c.if-y.true, c.if-z.false)

pub returns-else-y : goal.returns-else-y
unfolding failing
returns-else-y c = rw (c.if-x.true, c.if-y.false)

pub returns-else-x : goal.returns-else-x
unfolding failing
returns-else-x c = rw c.if-x.false
