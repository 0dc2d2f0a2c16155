-- `aabb::centre_image` meets its contract: what the three calls ensure, put into one another.
use mathlib.Core.Path.{ap, ◌∙◌}
use Rattle.math.specs.Transform.{centre_image, point_of, half, xyz}
use Rattle.math.specs.Vec3s.{scale_of, one, ◌⊘◌}
use Rattle.math.specs.declared.vec3.Vec3.{Vec3}
use Rattle.math.specs.declared.mat4.Vec4.{Vec4}
use Rattle.math.proofs.aabb.centre_image.Goals as goal

pub returns : goal.returns
unfolding centre_image
returns c =
    let m = c.args.m in
    let e = c.transform_point-p.ensures ∙ ap (point_of m) (c.scale-centre.ensures ∙ ap (λ (v : Vec3). scale_of v half) c.add.ensures) in
    ap (λ (p : Vec4). scale_of (xyz p) (one ⊘ p.w)) e
