-- `moving::pushed` meets its contract: what the operators on points ensure, put together.
use mathlib.Core.Path.{ap, ◌∙◌}
use Rattle.math.specs.Vec3s.{add_of, scale_of}
use Rattle.math.specs.declared.vec3.Vec3.{Vec3}
use Rattle.by_normals.proofs.moving.pushed.Goals as goal

pub returns : goal.returns
returns c =
    let a = c.args in
    c.add.ensures
    ∙ ap (add_of a.from) (c.scale.ensures ∙ ap (λ (n : Vec3). scale_of n a.by) c.vertex_normal.ensures)
