-- `moving::reached` meets its contract: the point, and what `way` ensures.
use Rattle.rings.proofs.moving.reached.Goals as goal

pub returns : goal.returns
returns c = λ i. record { point = c.args.x; way = c.way.ensures i }
