-- `extent_image` meets its contract: what the seven calls ensure, put into one another.
use mathlib.Core.Path.{ap, ◌∙◌}
use Rattle.math.specs.Transform.{abs_row, abs_matrix, vector_of, extent_image, half}
use Rattle.math.specs.Vec3s.{scale_of, abs_of}
use Rattle.math.specs.declared.vec3.Vec3.{Vec3}
use Rattle.math.specs.declared.mat4.Vec4.{Vec4}
use Rattle.box_rows.proofs.extent_image.Goals as goal

pub returns : goal.returns
unfolding extent_image vector_of abs_matrix
returns c =
    let m = c.args.m in
    let e = c.scale-extent.result in
    let half-extent = c.scale-extent.ensures ∙ ap (λ (v : Vec3). scale_of v half) c.sub.ensures in
    let of : Vec4 → Vec4 → Vec4 → Vec3 = λ x y z. vector_of (record { row0 = x; row1 = y; row2 = z; row3 = m.row3 }) e in
    let row0 = ap (λ (r : Vec4). of r c.abs_row-2.result c.abs_row-3.result) c.abs_row.ensures in
    let row1 = ap (λ (r : Vec4). of (abs_row m.row0) r c.abs_row-3.result) c.abs_row-2.ensures in
    let row2 = ap (λ (r : Vec4). of (abs_row m.row0) (abs_row m.row1) r) c.abs_row-3.ensures in
    c.abs.ensures ∙ ap abs_of (c.transform_vector.ensures ∙ row0 ∙ row1 ∙ row2 ∙ ap (vector_of (abs_matrix m)) half-extent)
