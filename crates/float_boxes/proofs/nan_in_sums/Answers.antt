-- `nan_in_sums`: what its calls ensure.
use mathlib.Core.Path.{ap₂, ◌∙◌}
use Rattle.float_boxes.specs.Floats.{nan_in, plus_of}
use Rattle.float_boxes.proofs.nan_in_sums.Goals as goal

pub returns : goal.returns
returns c =
    let sum = c.plus-all.ensures ∙ ap₂ plus_of c.plus.ensures c.plus-2.ensures in
    c.nan_in.ensures ∙ ap₂ nan_in sum (c.plus-corners.ensures ∙ ap₂ plus_of c.least.ensures c.greatest.ensures)
