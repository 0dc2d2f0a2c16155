-- `rays::ahead` meets its contract: four tests together.
use Rattle.rays.proofs.CountLaws.{together}
use Rattle.rays.proofs.rays.ahead.Goals as goal

pub returns : goal.returns
returns c =
    together (together c.not_below.ensures c.not_below-2.ensures)
    (together c.not_below-3.ensures c.at_most.ensures)
