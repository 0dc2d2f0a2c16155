-- `moving::each_first` meets its contract. The loop's invariant: the normals left, taken into the best so far, give the whole.
use Prim.Native.Nat.{◌-◌}
use Rattle.rings.specs.Moving.{each_first}
use Rattle.rings.specs.Steps.Stored.{normals_from}
use Rattle.rings.proofs.MovingLaws.{Carried}
use Rattle.rings.proofs.moving.each_first.Given as goal

abbrev pub invariant-loop-i : goal.invariant-loop-i
invariant-loop-i l = Carried l.m (each_first l.m) l.ns l.count (each_first l.m l.initial.best.point (normals_from l.ns 0 (l.count - 0))) l.best l.i
