-- `clamp::clamp` meets its contract: what the two ensure, put together.
use mathlib.Core.Path.{ap, ◌∙◌}
use Rattle.math.specs.declared.vec3.Vec3.{Vec3}
use Rattle.math.specs.Vec3s.{vmax3_of}
use Rattle.shrink.proofs.clamp.clamp.Goals as goal

pub returns : goal.returns
returns c = c.vmax.ensures ∙ ap (λ (s : Vec3). vmax3_of s c.args.b.min) c.vmin.ensures
