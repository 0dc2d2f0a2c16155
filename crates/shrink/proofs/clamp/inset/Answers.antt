-- `clamp::inset` meets its contract: what the operators ensure, put together.
use mathlib.Core.Path.{ap, ◌∙◌}
use Rattle.math.specs.declared.vec3.Vec3.{Vec3}
use lib.Ieee.{Float, neg}
use Rattle.math.specs.Vec3s.{sub_of, vadd_of}
use Rattle.shrink.specs.Clamping.{inset_of}
use Rattle.shrink.proofs.clamp.inset.Goals as goal

pub returns : goal.returns
unfolding inset_of
returns c =
    let a = c.args in
    let k = c.max_number-k.ensures in
    let low =
    c.sub.ensures ∙ ap (λ (v : Vec3). sub_of v a.center) (c.vadd_f.ensures ∙ ap (vadd_of a.b.min) k) in
    let high = c.sub-2.ensures ∙ ap (λ (v : Vec3). sub_of v a.center) (c.vadd_f-2.ensures ∙ ap (λ (m : Float). vadd_of a.b.max (neg m)) k) in
    λ i. record { min = low i; max = high i }
