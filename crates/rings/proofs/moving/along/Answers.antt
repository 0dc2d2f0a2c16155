-- `moving::along` meets its contract: what the two operators ensure.
use mathlib.Core.Path.{ap, ◌∙◌}
use Rattle.math.specs.Vec3s.{add_of}
use Rattle.rings.proofs.moving.along.Goals as goal

pub returns : goal.returns
returns c = c.add.ensures ∙ ap (add_of c.args.m.from) c.scale.ensures
