-- `vertex_pos` meets its contract: the vertex, brought to its place.
use mathlib.Core.Path.{ap, ◌∙◌}
use Rattle.math.specs.Transform.{xyz, point_of}
use Rattle.math.specs.Vec3s.{add_of}
use Rattle.math.specs.declared.vec3.Vec3.{Vec3}
use Rattle.points.specs.Points.{pos_of}
use Rattle.points.proofs.vertex_pos.Goals as goal

pub returns : goal.returns
unfolding pos_of
returns c =
    let a = c.args in
    c.position.ensures ∙ ap (λ (p : Vec3). xyz (point_of a.transform (add_of p a.center))) c.vertex_at.ensures
