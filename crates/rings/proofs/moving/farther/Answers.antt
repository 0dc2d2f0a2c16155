-- `moving::farther` meets its contract: each arm by its test on the two ways.
use Rattle.rings.proofs.MovingLaws.{farther_is, farther_not}
use Rattle.rings.proofs.moving.farther.Goals as goal

pub returns-then-new-best : goal.returns-then-new-best
returns-then-new-best c =
    let a = c.args in
    farther_is a.m a.best c.reached-new.result a.x c.requires c.reached-new.ensures c.if-new-best.true

pub returns-else-new-best : goal.returns-else-new-best
returns-else-new-best c =
    let a = c.args in
    farther_not a.m a.best c.reached-new.result a.x c.requires c.reached-new.ensures c.if-new-best.false
