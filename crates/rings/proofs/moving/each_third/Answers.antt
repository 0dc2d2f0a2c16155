-- `moving::each_third` meets its contract. The loop's invariant: the normals left, taken into the best so far, give the whole.
use mathlib.Core.Path.{ap, ◌∙◌}
use Prim.Native.Nat.{◌+◌, ◌-◌}
use Rattle.math.specs.declared.vec3.Vec3.{Vec3}
use Rattle.rings.specs.Moving.{each_third, triple_of}
use Rattle.rings.specs.Steps.Stored.{normals_from, reach_of}
use Rattle.rings.proofs.MovingLaws.{carry}
use Rattle.rings.proofs.Scanning.{begin, finished}
use native.Mathlib.Omega.{arith}
use Rattle.rings.proofs.moving.each_third.Goals as goal

pub loop-i-init : goal.loop-i-init
loop-i-init c =
    let a = c.args in
    record {
      scan = begin (each_third a.m a.a a.b) a.ns.now a.count a.start.point a.from (omega arith);
      with_way = c.requires.2;
    }

pub triple-best-requires : goal.triple-best-requires
triple-best-requires c = c.loop-i.invariant.with_way

pub loop-i-preserved : goal.loop-i-preserved
loop-i-preserved c =
    let a = c.args in
    let l = c.loop-i in
    let rest = normals_from a.ns.now (l.i + 1) (a.count - (l.i + 1)) in
    carry a.m (each_third a.m a.a a.b) a.ns.now a.count _ l.best l.i l.invariant (omega arith) _ _ c.triple-best.ensures
    (ap (λ (n : Vec3). each_third a.m a.a a.b (triple_of a.m a.a a.b l.best.point n) rest) c.normal_at.ensures)

pub returns : goal.returns
returns c =
    let a = c.args in
    let l = c.loop-i in
    l.invariant.with_way
    ∙ ap (reach_of a.m)
    (finished (each_third a.m a.a a.b) a.ns.now a.count _ l.best.point l.i l.invariant.scan (omega arith))
