-- `margin::start_margin` meets its contract: what the calls ensure, put into one another.
use mathlib.Core.Path.{ap, ◌∙◌}
use Rattle.math.specs.declared.vec3.Vec3.{Vec3}
use Rattle.float32.specs.Extremes.{min_number_of}
use Rattle.math.specs.Vec3s.{abs_of, scale_of}
use Rattle.math.specs.Transform.{half}
use Rattle.shrink.specs.Margins.{start_of}
use Rattle.shrink.proofs.margin.start_margin.Goals as goal

pub returns : goal.returns
unfolding start_of
returns c =
    let a = c.args in
    let size =
    c.scale-size.ensures
    ∙ ap (λ (v : Vec3). scale_of v half) (c.abs.ensures
    ∙ ap abs_of c.sub.ensures) in
    let x = c.min_number-x.ensures ∙ ap (λ (v : Vec3). min_number_of a.margin v.x) size in
    let y = c.min_number-y.ensures ∙ (λ i. min_number_of (x i) (size i).y) in
    c.min_number.ensures ∙ (λ i. min_number_of (y i) (size i).z)
