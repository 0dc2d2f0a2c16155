-- `state::WalkState::ahead` meets its contract: a record read for each tree passed over.
use mathlib.Core.Path.{refl}
use Rattle.walk_steps.proofs.state.WalkState.ahead.Goals as goal

pub returns : goal.returns
returns c = refl
