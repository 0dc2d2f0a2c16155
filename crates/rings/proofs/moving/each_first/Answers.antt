-- `moving::each_first` meets its contract. The loop's invariant: the normals left, taken into the best so far, give the whole.
use mathlib.Core.Path.{◌≡◌, ap, ◌∙◌}
use Prim.Native.Nat.{ℕ, ◌+◌, ◌-◌}
use Rattle.math.specs.declared.vec3.Vec3.{Vec3}
use Rattle.rings.specs.declared.moving.Reach.{Reach}
use Rattle.rings.specs.Moving.{each_first, each_second}
use Rattle.rings.specs.Steps.Stored.{normals_from}
use Rattle.rings.proofs.MovingLaws.{carried, carry}
use Rattle.rings.proofs.Scanning.{begin, finished}
use native.Mathlib.Omega.{arith}
use Rattle.rings.proofs.moving.each_first.Goals as goal

pub loop-i-init : goal.loop-i-init
loop-i-init c =
    let a = c.args in
    let best = c.reached-best.result in
    record {
      scan = begin (each_first a.m) a.ns.now a.count best.point 0 (omega arith);
      with_way = carried a.m best a.start c.reached-best.ensures;
    }

pub each_second-best-requires : goal.each_second-best-requires
each_second-best-requires c = (omega arith, c.requires, c.loop-i.invariant.with_way)

pub loop-i-preserved : goal.loop-i-preserved
loop-i-preserved c =
    let a = c.args in
    let l = c.loop-i in
    let rest = normals_from a.ns.now (l.i + 1) (a.count - (l.i + 1)) in
    carry a.m (each_first a.m) a.ns.now a.count _ l.best l.i l.invariant (omega arith) _ _ c.each_second-best.ensures
    (ap (λ (n : Vec3). each_first a.m (each_second a.m n l.best.point rest) rest) c.normal_at.ensures)

pub returns : goal.returns
returns c =
    let a = c.args in
    let l = c.loop-i in
    let all : a.count - 0 ≡ a.count = omega arith in
    finished (each_first a.m) a.ns.now a.count _ l.best.point l.i l.invariant.scan (omega arith)
    ∙ ap (λ (k : ℕ). each_first a.m c.reached-best.result.point (normals_from a.ns.now 0 k)) all
    ∙ ap (λ (r : Reach). each_first a.m r.point (normals_from a.ns.now 0 a.count)) c.reached-best.ensures
