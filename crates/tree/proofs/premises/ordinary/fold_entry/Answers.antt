-- `ordinary::fold_entry` meets its contract: by its mark.
use mathlib.Core.Path.{ap, ◌∙◌}
use Rattle.math.specs.Stored.{vmin_words_of, vmax_words_of}
use Rattle.entries.specs.declared.boxes.BoxWords.{BoxWords}
use Rattle.tree.proofs.premises.Passing.{unmarked, is_marked_lem}
use Rattle.tree.proofs.premises.ordinary.fold_entry.Goals as goal

pub returns-then-entries-p-eq0 : goal.returns-then-entries-p-eq0
returns-then-entries-p-eq0 c = unmarked _ _ _ c.if-entries-p-eq0.true

pub returns : goal.returns
returns c =
    let acc = c.args.acc in
    let b = c.box_at-b.ensures in
    let lo = c.vmin_words.ensures ∙ ap (λ (b : BoxWords). vmin_words_of acc.min b.min) b in
    let hi = c.vmax_words.ensures ∙ ap (λ (b : BoxWords). vmax_words_of acc.max b.max) b in
    (λ i. record { min = lo i; max = hi i }) ∙ is_marked_lem _ _ _ c.if-entries-p-eq0.false
