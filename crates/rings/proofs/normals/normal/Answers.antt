-- `normals::normal` meets its contract: what the operators on points ensure, put together.
use mathlib.Core.Path.{ap, ap₂, ◌∙◌}
use Rattle.math.specs.Vec3s.{cross_of, norm_of}
use Rattle.rings.specs.Normals.{normal_of}
use Rattle.rings.proofs.normals.normal.Goals as goal

pub returns : goal.returns
unfolding normal_of
returns c = c.norm.ensures ∙ ap norm_of (c.cross.ensures ∙ ap₂ cross_of c.sub.ensures c.sub-2.ensures)
