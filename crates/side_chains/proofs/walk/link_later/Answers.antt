-- `link_later`: the later side is stored, and the first's where it has none.
use Rattle.side_chains.proofs.walk.Joining.{as_second, as_third}
use Rattle.side_chains.proofs.walk.link_later.Goals as goal

pub returns-then-links-f-eq-NONE : goal.returns-then-links-f-eq-NONE
returns-then-links-f-eq-NONE c = as_second _ _ _ _ _ c.polygon_of.ensures c.polygon_of-then-links-f-eq-NONE.ensures c.if-links-f-eq-NONE.true

pub returns-else-links-f-eq-NONE : goal.returns-else-links-f-eq-NONE
returns-else-links-f-eq-NONE c = as_third _ _ _ _ c.polygon_of.ensures c.if-links-f-eq-NONE.false
