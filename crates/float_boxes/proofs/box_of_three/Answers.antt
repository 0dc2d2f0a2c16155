-- `box_of_three`: what its calls ensure, one after the other.
use mathlib.Core.Path.{ap, ap₂, ◌∙◌}
use Rattle.float_boxes.specs.Floats.{lesser_of, greater_of, told_box}
use Rattle.float_boxes.specs.declared.Floats4.{Floats4}
use Rattle.float_boxes.proofs.box_of_three.Goals as goal

pub returns : goal.returns
returns c =
    let third : Floats4 = c.args.v.c in
    let min = c.lesser-min.ensures ∙ ap (λ (m : Floats4). lesser_of m third) c.lesser.ensures in
    let max = c.greater-max.ensures ∙ ap (λ (m : Floats4). greater_of m third) c.greater.ensures in
    c.told_box.ensures ∙ ap₂ told_box min max
