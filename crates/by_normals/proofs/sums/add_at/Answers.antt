-- `sums::add_at` meets its contract: the point read, the normal added, the sum stored.
use mathlib.Core.Path.{ap, ◌∙◌}
use Prim.Native.Nat.{◌*◌}
use lib.Seq.{sets}
use Rattle.math.specs.Vec3s.{add_of}
use Rattle.math.specs.declared.vec3.Vec3.{Vec3}
use Rattle.points.specs.Points.{words_of}
use Rattle.by_normals.proofs.sums.add_at.Goals as goal

pub returns : goal.returns
returns c =
    let a = c.args in
    c.put_point.ensures
    ∙ ap (λ (p : Vec3). sets a.points.now (3 * a.i) (words_of p)) (c.add-sum.ensures ∙ ap (λ (p : Vec3). add_of p a.n)
    c.vertex_at.ensures)
