-- `moving::each_second` meets its contract. The loop's invariant: the normals left, taken into the best so far, give the whole.
use Prim.Native.Nat.{◌-◌}
use Rattle.rings.specs.Moving.{each_second}
use Rattle.rings.specs.Steps.Stored.{normals_from}
use Rattle.rings.proofs.MovingLaws.{Carried}
use Rattle.rings.proofs.moving.each_second.Given as goal

abbrev pub invariant-loop-i : goal.invariant-loop-i
invariant-loop-i l = Carried l.m (each_second l.m l.a) l.ns l.count (each_second l.m l.a l.initial.best.point (normals_from l.ns l.from (l.count - l.from))) l.best l.i
