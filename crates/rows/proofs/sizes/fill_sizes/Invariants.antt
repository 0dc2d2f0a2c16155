-- `sizes::fill_sizes` meets its contract. The loop's invariant is `Filling`: the rows from i on are sized, the others as they were.
use Prim.Native.Nat.{◌*◌}
use lib.ListN.{drop}
use Rattle.rows.specs.Steps.Table.{rows_in}
use Rattle.rows.proofs.sizes.Filling.{Filling}
use Rattle.rows.proofs.sizes.fill_sizes.Given as goal

abbrev pub invariant-loop-i : goal.invariant-loop-i
invariant-loop-i l = Filling (rows_in l.m l.initial.rows) (drop (8 * l.m) l.initial.rows) l.rows l.i
