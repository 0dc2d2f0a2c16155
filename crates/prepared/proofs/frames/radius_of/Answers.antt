-- `radius_of`: step after step as in the definition.
use mathlib.Core.Path.{ap, ◌∙◌}
use lib.Ieee.{binary32, to_bits}
use Rattle.math.specs.declared.vec3.Vec3.{Vec3}
use Rattle.math.specs.Vec3s.{sub_of, length_of}
use Rattle.prepared.specs.Rebuilt.{radius_of}
use Rattle.prepared.proofs.frames.radius_of.Goals as goal

pub returns : goal.returns
unfolding radius_of
returns c =
    let a = c.args in
    c.bits.ensures
    ∙ ap (to_bits binary32)
    (c.length-length.ensures
    ∙ ap length_of (c.sub.ensures ∙ ap (λ (x : Vec3). sub_of x a.cen) c.values.ensures))
