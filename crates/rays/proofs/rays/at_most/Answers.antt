-- `rays::at_most` meets its contract: one where the test fails.
use lib.Ieee.{le}
use Rattle.rays.proofs.CountLaws.{failed_by}
use Rattle.rays.proofs.rays.at_most.Goals as goal

pub returns : goal.returns
returns c = failed_by (le c.args.a c.args.b) _ c.from.ensures
