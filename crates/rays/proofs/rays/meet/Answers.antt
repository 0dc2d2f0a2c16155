-- `rays::meet` meets its contract: what the operators on points ensure, put together.
use mathlib.Core.Path.{ap, ap₂, ◌∙◌}
use Rattle.math.specs.declared.vec3.Vec3.{Vec3}
use Rattle.math.specs.Vec3s.{◌⊗◌, ◌⊘◌, one, dot_of, cross_of}
use Rattle.rays.specs.Rays.{meeting_of}
use Rattle.rays.proofs.rays.meet.Goals as goal

pub returns : goal.returns
unfolding meeting_of
returns c =
    let a = c.args in
    let k = c.cross-k.ensures in
    let det = c.dot-det.ensures ∙ ap (dot_of a.f.side1) k in
    let w = c.sub-w.ensures in
    let q = c.cross-q.ensures ∙ ap (λ (v : Vec3). cross_of v a.f.side1) w in
    let u = c.dot.ensures ∙ ap₂ dot_of w k in
    let v = c.dot-2.ensures ∙ ap (dot_of a.ray.dir) q in
    let t = c.dot-3.ensures ∙ ap (dot_of a.f.side2) q in
    λ i. record { det = det i; u = u i ⊗ (one ⊘ det i); v = v i ⊗ (one ⊘ det i); t = t i ⊗ (one ⊘ det i) }
