-- `moving::sum_from` meets its contract. The loop's invariant: the normals left, added to the sum so far, give the whole.
use Prim.Native.Nat.{◌-◌}
use Rattle.rings.specs.Moving.{sum_from}
use Rattle.rings.specs.Steps.Stored.{normals_from}
use Rattle.rings.proofs.Scanning.{Scan}
use Rattle.rings.proofs.moving.sum_from.Given as goal

abbrev pub invariant-loop-i : goal.invariant-loop-i
invariant-loop-i l = Scan (sum_from) l.ns l.count ((sum_from) l.initial.sum (normals_from l.ns 1 (l.count - 1))) l.sum l.i
