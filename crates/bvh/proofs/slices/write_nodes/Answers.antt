-- `slices::write_nodes` meets its contract: the records, and at threshold 1 the padding stored behind them.
use Rattle.bvh.proofs.slices.Writing.{nodes_padded, nodes_bare}
use Rattle.bvh.proofs.slices.write_nodes.Goals as goal

pub returns-then-task-eq1 : goal.returns-then-task-eq1
returns-then-task-eq1 c =
    let one = c.if-task-eq1.true in
    let pre = c.requires in
    nodes_padded _ _ _ _ _ _ _ c.put_nodes.ensures _ one pre.2 pre.3 c.pad_nodes.ensures

pub returns : goal.returns
returns c = nodes_bare _ _ _ _ _ _ _ c.put_nodes.ensures c.if-task-eq1.false
