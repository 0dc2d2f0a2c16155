-- `emit::put_nodes` meets its contract. The loop's invariant: the records of the first i rows are written.
use lib.ListN.{take}
use Rattle.rows.specs.Output.{nodes_bytes}
use Rattle.rows.specs.Steps.Table.{rows_in}
use Rattle.rows.proofs.emit.Writing.{Writing}
use Rattle.rows.proofs.emit.put_nodes.Given as goal

abbrev pub invariant-loop-i : goal.invariant-loop-i
invariant-loop-i l = let written = nodes_bytes l.scale l.threshold l.leaf_order (take l.i (rows_in l.m l.rows)) in
    Writing l.initial.node_bytes l.node_bytes written l.i l.m
