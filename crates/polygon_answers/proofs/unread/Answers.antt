-- `unread` meets its contract: the number, and zeros.
use Rattle.polygon_answers.specs.Geometry.{unread}
use Rattle.polygon_answers.proofs.unread.Goals as goal

pub returns : goal.returns
unfolding unread
returns c = cc
