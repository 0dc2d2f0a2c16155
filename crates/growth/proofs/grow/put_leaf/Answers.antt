-- `grow::put_leaf` meets its contract: the row with the folded box.
use Rattle.growth.proofs.grow.put_leaf.Goals as goal

pub returns : goal.returns
returns c = rw c.fold_box-around.ensures at c.put_row.ensures
