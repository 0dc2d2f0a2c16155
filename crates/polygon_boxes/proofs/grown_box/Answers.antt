-- `grown_box` meets its contract: what its calls ensure, one after the other.
use mathlib.Core.Path.{ap, ◌∙◌}
use Rattle.math.specs.Stored.{bits_of}
use Rattle.polygon_boxes.specs.Boxes.{grown_box}
use Rattle.polygon_boxes.proofs.grown_box.Goals as goal

pub returns : goal.returns
unfolding grown_box
returns c =
    let low = c.bits.ensures ∙ ap bits_of c.vadd_f.ensures in
    let high = c.bits-2.ensures ∙ ap bits_of c.vadd_f-2.ensures in
    λ i. record { min = low i; max = high i }
