-- `read_back` meets its contract: axis by axis the float of the number, times the quantum.
use mathlib.Core.Path.{ap, ◌∙◌}
use lib.Ieee.{Float, binary32, of_int}
use Rattle.base.proofs.ShortLaws.{same_short}
use Rattle.math.specs.Vec3s.{◌⊗◌}
use Rattle.vertices.specs.Vertices.{read_back_of}
use Rattle.vertices.proofs.read_back.Goals as goal

pub returns : goal.returns
unfolding read_back_of
returns c =
    let s = c.args in
    let rx = ap (of_int binary32) (same_short s.v.0 c.struct_told-1.given.0.1) in
    let ry = ap (of_int binary32) (same_short s.v.1 c.struct_told-2-1.given.1.0.1) in
    let rz = ap (of_int binary32) (same_short s.v.2 c.struct_told-3-1.given.1.1.0.1) in
    let ex = ap (λ (n : Float). n ⊗ s.quantum.x) (c.of_short.ensures ∙ rx) in
    let ey = ap (λ (n : Float). n ⊗ s.quantum.y) (c.of_short-2.ensures ∙ ry) in
    let ez = ap (λ (n : Float). n ⊗ s.quantum.z) (c.of_short-3.ensures ∙ rz) in
    c.vmul.ensures ∙ (λ i. record { x = ex i; y = ey i; z = ez i })
