-- `stored` meets its contract: axis by axis the cast of the quotient.
use mathlib.Core.Path.{ap, ◌∙◌}
use Rattle.base.proofs.ShortLaws.{same_short}
use Rattle.float32.specs.Casts.{vertex_of}
use Rattle.math.specs.declared.vec3.Vec3.{Vec3}
use Rattle.vertices.specs.Vertices.{stored_of}
use Rattle.vertices.proofs.stored.Goals as goal

pub returns : goal.returns
unfolding stored_of
returns c =
    let d = c.vdiv-d.ensures in
    let x = c.vertex_value-x in
    let y = c.vertex_value-y in
    let z = c.vertex_value-z in
    let ex = same_short x.result x.type_inv ∙ x.ensures ∙ ap (λ (v : Vec3). vertex_of v.x) d in
    let ey = same_short y.result y.type_inv ∙ y.ensures ∙ ap (λ (v : Vec3). vertex_of v.y) d in
    let ez = same_short z.result z.type_inv ∙ z.ensures ∙ ap (λ (v : Vec3). vertex_of v.z) d in
    λ i. record { 0 = ex i; 1 = ey i; 2 = ez i }
