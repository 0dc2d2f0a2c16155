-- `bounds_composite_tree` meets its contract: the answer of `composite_tree` as a struct.
use Rattle.bounds.proofs.CompositeLaws.{composed}
use Rattle.bounds.proofs.composites.bounds_composite_tree.Goals as goal

pub returns : goal.returns
returns c =
    composed _ _ _ _ _ _ _ c.composite_tree.ensures c.composite_answer.ensures
