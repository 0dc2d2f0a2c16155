-- `moving::sum_from` meets its contract. The loop's invariant: the normals left, added to the sum so far, give the whole.
use mathlib.Core.Path.{ap, ◌∙◌}
use Prim.Native.Nat.{◌+◌, ◌-◌}
use Rattle.math.specs.declared.vec3.Vec3.{Vec3}
use native.Mathlib.Omega.{arith}
use Rattle.rings.specs.Moving.{sum_from}
use Rattle.rings.specs.Steps.Stored.{normals_from}
use Rattle.rings.proofs.Scanning.{begin, taken, finished}
use Rattle.math.specs.Vec3s.{add_of}
use Rattle.rings.proofs.moving.sum_from.Goals as goal

pub loop-i-init : goal.loop-i-init
loop-i-init c =
    let a = c.args in
    begin (sum_from) a.ns.now a.count a.own 1 (omega arith)

pub loop-i-preserved : goal.loop-i-preserved
loop-i-preserved c =
    let a = c.args in
    let l = c.loop-i in
    let rest = normals_from a.ns.now (l.i + 1) (a.count - (l.i + 1)) in
    taken (sum_from) a.ns.now a.count _ l.sum _ l.i l.invariant (omega arith)
    (ap (λ (s : Vec3). (sum_from) s rest) (c.add-sum.ensures ∙ ap (add_of l.sum) c.normal_at.ensures))

pub returns : goal.returns
returns c =
    let a = c.args in
    let l = c.loop-i in
    finished (sum_from) a.ns.now a.count _ l.sum l.i l.invariant (omega arith)
