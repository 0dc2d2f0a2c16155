-- `check::way_back` meets its contract: what the operators on points ensure, put together.
use mathlib.Core.Path.{ap, ◌∙◌}
use Rattle.math.specs.Vec3s.{◌⊘◌, one, length_of, scale_of}
use Rattle.rays.specs.Checks.{way_back}
use Rattle.rays.proofs.check.way_back.Goals as goal

pub returns : goal.returns
unfolding way_back
returns c =
    let a = c.args in
    let d = c.sub-d.ensures in
    let length = c.length-length.ensures ∙ ap length_of d in
    let dir = c.scale.ensures ∙ (λ i. scale_of (d i) (one ⊘ length i)) in
    λ i. record { pos = a.shrunk; dir = dir i; length = length i }
