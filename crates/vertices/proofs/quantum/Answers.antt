-- `quantum` meets its contract: axis by axis what its calls ensure.
use mathlib.Core.Path.{ap, ◌∙◌}
use lib.Ieee.{Float}
use Rattle.float32.specs.Casts.{limit}
use Rattle.math.specs.Transform.{half}
use Rattle.math.specs.Vec3s.{◌⊘◌, each, scale_of}
use Rattle.math.specs.declared.vec3.Vec3.{Vec3}
use Rattle.vertices.specs.Vertices.{quantum_of_box}
use Rattle.vertices.proofs.quantum.Goals as goal

pub returns : goal.returns
unfolding quantum_of_box
returns c =
    let scaled = c.scale-half.ensures ∙ ap (λ (v : Vec3). scale_of v half) c.sub.ensures in
    ap (each (λ (x : Float). x ⊘ limit)) scaled
