-- `ranges::put_trees` meets its contract. The loop's invariant, for every tree whose rows the table holds: after k records, at row i, the
-- ranges yet to come are those of the rows from i on, and the others' records are written. The measure is what is left of the rows.
use Prim.Native.Nat.{◌-◌}
use Rattle.rows.proofs.ranges.Scanning.{Going}
use Rattle.rows.proofs.ranges.put_trees.Given as goal

abbrev pub invariant-loop-i : goal.invariant-loop-i
invariant-loop-i l = Going l.limit l.scale l.m l.rows l.initial.tree_bytes l.tree_bytes l.i l.k

abbrev pub decreases-loop-i : goal.decreases-loop-i
decreases-loop-i l = l.m - l.i
