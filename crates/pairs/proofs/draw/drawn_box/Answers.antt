-- `draw::drawn_box` meets its contract: the least corner, and it with the sides, each scaled.
use Rattle.std.proofs.Common.{ℕ, ap, ◌∙◌, ap₂}
use lib.Ieee.{binary32, of_bits, neg}
use Rattle.math.specs.declared.vec3.Vec3.{Vec3}
use Rattle.math.specs.Vec3s.{add_of, scale_of, vadd_of}
use Rattle.pairs.specs.Drawing.{corner_of, least_of, drawn_box}
use Rattle.pairs.proofs.draw.drawn_box.Goals as goal

pub returns : goal.returns
unfolding drawn_box least_of of_bits neg
returns c =
    let start = c.args in
    let shape = start.shape in
    let low = c.vadd_f-min.ensures ∙ ap (λ (v : Vec3). vadd_of v (neg (of_bits binary32 0x42c8_0000))) c.corner.ensures in
    let wide = c.corner-sides.ensures
    ∙ ap (λ (k : ℕ). corner_of k shape.side shape.side shape.side) c.three_on.ensures in
    let high = c.add.ensures ∙ ap₂ add_of low wide in
    λ i. record {
      min = (c.scale.ensures ∙ ap (λ (v : Vec3). scale_of v shape.grain) low) i;
      max = (c.scale-2.ensures ∙ ap (λ (v : Vec3). scale_of v shape.grain) high) i;
    }
