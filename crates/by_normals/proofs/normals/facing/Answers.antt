-- `normals::facing` meets its contract: rule S2's normal, of the corners in the other order.
use Rattle.by_normals.specs.Normals.{facing}
use Rattle.rings.specs.Normals.{normal_of}
use Rattle.by_normals.proofs.normals.facing.Goals as goal

pub returns : goal.returns
unfolding facing normal_of
returns c = c.normal.ensures
