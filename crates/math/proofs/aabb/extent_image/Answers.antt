-- `aabb::extent_image` meets its contract: what the five calls ensure, put into one another.
use mathlib.Core.Path.{ap, ◌∙◌}
use Rattle.math.specs.Transform.{abs_matrix, vector_of, half}
use Rattle.math.specs.Vec3s.{scale_of, abs_of}
use Rattle.math.specs.declared.vec3.Vec3.{Vec3}
use Rattle.math.specs.declared.mat4.Mat4.{Mat4}
use Rattle.math.specs.Transform.{extent_image}
use Rattle.math.proofs.aabb.extent_image.Goals as goal

pub returns : goal.returns
unfolding extent_image
returns c =
    let m = c.args.m in
    let half-extent = c.scale-extent.ensures ∙ ap (λ (v : Vec3). scale_of v half) c.sub.ensures in
    let rows = ap (λ (a : Mat4). vector_of a c.scale-extent.result) c.abs.ensures in
    c.abs-2.ensures ∙ ap abs_of (c.transform_vector.ensures ∙ rows ∙ ap (vector_of (abs_matrix m)) half-extent)
