-- `pair_box` meets its contract: what its calls ensure, one after the other.
use mathlib.Core.Path.{ap₂, ◌∙◌}
use Rattle.math.specs.Vec3s.{vmin3_of, vmax3_of}
use Rattle.math.specs.declared.vec3.Vec3.{Vec3}
use Rattle.polygon_boxes.specs.Boxes.{grown_box, pair_box}
use Rattle.polygon_boxes.proofs.pair_box.Goals as goal

pub returns : goal.returns
unfolding pair_box
returns c =
    let first = c.values-first.ensures in
    let second = c.values-second.ensures in
    let low = c.vmin.ensures ∙ ap₂ vmin3_of first second in
    let high = c.vmax.ensures ∙ ap₂ vmax3_of first second in
    c.grown_box.ensures ∙ ap₂ (λ (l h : Vec3). grown_box l h c.args.radius) low high
