-- `word_box` meets its contract: what its calls ensure, one after the other.
use mathlib.Core.Path.{ap, ◌∙◌}
use Rattle.math.specs.Stored.{vmin_words_of, vmax_words_of}
use Rattle.math.specs.declared.words3.Words3.{Words3}
use Rattle.polygon_boxes.specs.Boxes.{three_box}
use Rattle.polygon_boxes.proofs.word_box.Goals as goal

pub returns : goal.returns
unfolding three_box
returns c =
    let third = c.args.c in
    let low = c.vmin_words-2.ensures ∙ ap (λ (w : Words3). vmin_words_of w third) c.vmin_words.ensures in
    let high = c.vmax_words-2.ensures ∙ ap (λ (w : Words3). vmax_words_of w third) c.vmax_words.ensures in
    λ i. record { min = low i; max = high i }
