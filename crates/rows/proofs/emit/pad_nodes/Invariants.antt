-- `emit::pad_nodes` meets its contract. The loop's invariant: the records from `from` up to i are padding.
use Rattle.rows.proofs.emit.Writing.{Padding}
use Rattle.rows.proofs.emit.pad_nodes.Given as goal

abbrev pub invariant-loop-i : goal.invariant-loop-i
invariant-loop-i l = Padding l.initial.node_bytes l.node_bytes l.from l.i l.upto
