-- `moving::meet` meets its contract: what the operators on points ensure, put together.
use mathlib.Core.Path.{ap, ap₂, ◌∙◌}
use Rattle.math.specs.Vec3s.{◌⊘◌, one, add_of, scale_of, dot_of}
use Rattle.rings.specs.Moving.{along_of}
use Rattle.rings.proofs.moving.meet.Goals as goal

pub returns : goal.returns
returns c =
    let a = c.args in
    let k = c.cross-k.ensures in
    let sum =
    c.add-sum.ensures
    ∙ ap₂ add_of (c.add.ensures
    ∙ ap₂ add_of k c.cross.ensures) c.cross-2.ensures in
    let det = c.dot.ensures ∙ ap (dot_of a.a) k in
    c.along.ensures ∙ ap (along_of a.m) (c.scale.ensures ∙ (λ i. scale_of (sum i) (one ⊘ det i)))
