-- `quantise::scaled` meets its contract: the calls in turn.
use mathlib.Core.Path.{ap, ◌∙◌}
use Rattle.math.specs.Vec3s.{sub_of, vmul_of}
use Rattle.math.specs.declared.vec3.Vec3.{Vec3}
use Rattle.records.proofs.quantise.scaled.Goals as goal

pub returns : goal.returns
returns c =
    let a = c.args in
    c.vmul.ensures ∙ ap (λ (v : Vec3). vmul_of v a.inverse)
    (c.sub.ensures ∙ ap (λ (v : Vec3). sub_of v a.cen) c.values.ensures)
