-- `rays::within` meets its contract: two tests together.
use Rattle.rays.proofs.CountLaws.{together}
use Rattle.rays.proofs.rays.within.Goals as goal

pub returns : goal.returns
returns c = together c.at_most.ensures c.at_most-2.ensures
