-- `moving::way` meets its contract: what the two operators ensure.
use mathlib.Core.Path.{ap, ◌∙◌}
use Rattle.math.specs.declared.vec3.Vec3.{Vec3}
use Rattle.math.specs.Vec3s.{dot_of}
use Rattle.rings.proofs.moving.way.Goals as goal

pub returns : goal.returns
returns c = c.dot.ensures ∙ ap (λ (d : Vec3). dot_of d d) c.sub-d.ensures
