-- `position` meets its contract: the point through the transform, without its w.
use mathlib.Core.Path.{ap, ◌∙◌}
use Rattle.math.specs.Transform.{xyz, point_of}
use Rattle.points.proofs.position.Goals as goal

pub returns : goal.returns
returns c =
    let a = c.args in
    ap xyz (c.transform_point-p.ensures ∙ ap (point_of a.transform) c.add.ensures)
