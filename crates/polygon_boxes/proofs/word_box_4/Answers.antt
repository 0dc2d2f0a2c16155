-- `word_box_4` meets its contract: what its calls ensure, one after the other.
use mathlib.Core.Path.{ap, ◌∙◌}
use Rattle.math.specs.Stored.{vmin_words_of, vmax_words_of}
use Rattle.polygon_boxes.specs.Boxes.{three_box, four_box}
use Rattle.polygon_boxes.specs.declared.PolygonBox.{PolygonBox}
use Rattle.polygon_boxes.proofs.word_box_4.Goals as goal

pub returns : goal.returns
unfolding three_box four_box
returns c =
    let fourth = c.args.d in
    let three = c.word_box-three.ensures in
    let low = c.vmin_words.ensures ∙ ap (λ (b : PolygonBox). vmin_words_of b.min fourth) three in
    let high = c.vmax_words.ensures ∙ ap (λ (b : PolygonBox). vmax_words_of b.max fourth) three in
    λ i. record { min = low i; max = high i }
