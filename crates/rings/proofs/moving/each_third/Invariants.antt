-- `moving::each_third` meets its contract. The loop's invariant: the normals left, taken into the best so far, give the whole.
use Prim.Native.Nat.{◌-◌}
use Rattle.rings.specs.Moving.{each_third}
use Rattle.rings.specs.Steps.Stored.{normals_from}
use Rattle.rings.proofs.MovingLaws.{Carried}
use Rattle.rings.proofs.moving.each_third.Given as goal

abbrev pub invariant-loop-i : goal.invariant-loop-i
invariant-loop-i l = Carried l.m (each_third l.m l.a l.b) l.ns l.count (each_third l.m l.a l.b l.initial.best.point (normals_from l.ns l.from (l.count - l.from))) l.best l.i
