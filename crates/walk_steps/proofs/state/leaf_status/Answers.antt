-- `state::leaf_status` meets its contract: the two ways through it are the two cases of the choice.
use borrow.Author.Tests.{lt-ltb, le-ltb}
use Rattle.walk_steps.proofs.state.leaf_status.Goals as goal

pub returns-then-room-count : goal.returns-then-room-count
returns-then-room-count c = rw (lt-ltb c.args.room c.args.count c.if-room-count.true)

pub returns-else-room-count : goal.returns-else-room-count
returns-else-room-count c = rw (le-ltb c.args.room c.args.count c.if-room-count.false)
