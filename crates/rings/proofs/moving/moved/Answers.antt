-- `moving::moved` meets its contract: by the number of normals.
use mathlib.Core.Path.{ap, ◌∙◌}
use Prim.Native.Nat.{◌-◌}
use native.Mathlib.Omega.{arith}
use Rattle.math.specs.declared.vec3.Vec3.{Vec3}
use Rattle.math.specs.Vec3s.{norm_of}
use Rattle.rings.specs.Moving.{along_of, sum_from, between_of, each_first}
use Rattle.rings.specs.Steps.Stored.{normals_from}
use Rattle.rings.proofs.MovingLaws.{one_normal, two_normals, more_normals}
use Rattle.rings.proofs.moving.moved.Goals as goal

pub returns-then-count-eq1 : goal.returns-then-count-eq1
returns-then-count-eq1 c =
    let a = c.args in
    c.along.ensures ∙ ap (along_of a.m) c.normal_at-own.ensures ∙ one_normal a.ns.now a.m a.count c.if-count-eq1.true

pub returns-then-count-eq2 : goal.returns-then-count-eq2
returns-then-count-eq2 c =
    let a = c.args in
    let own = c.normal_at-own.ensures in
    let best =
    c.along-best.ensures
    ∙ ap (along_of a.m) (c.norm.ensures
    ∙ ap norm_of (c.sum_from.ensures
    ∙ ap (λ (s : Vec3). sum_from s (normals_from a.ns.now 1 (a.count - 1))) own)) in
    c.between.ensures ∙ (λ i. between_of a.m (own i) (c.normal_at.ensures i) (best i))
    ∙ two_normals a.ns.now a.m a.count c.if-count-eq2.true

pub returns : goal.returns
returns c =
    let a = c.args in
    let own = c.normal_at-own.ensures in
    let best =
    c.along-best.ensures
    ∙ ap (along_of a.m) (c.norm.ensures
    ∙ ap norm_of (c.sum_from.ensures ∙ ap (λ (s : Vec3). sum_from s (normals_from a.ns.now 1 (a.count - 1))) own)) in
    c.each_first.ensures ∙ ap (λ (s : Vec3). each_first a.m s (normals_from a.ns.now 0 a.count)) best
    ∙ more_normals a.ns.now a.m a.count (omega (arith, c.if-count-eq2.false, c.if-count-eq1.false))
