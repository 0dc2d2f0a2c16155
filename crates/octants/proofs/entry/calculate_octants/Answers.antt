-- `calculate_octants`: the checks in their order, and then the lists.
use mathlib.Core.Path.{sym, ◌∙◌}
use borrow.Author.Tests.{ltb-true}
use Rattle.octants.proofs.entry.Answering.{few, room, too_many, too_small, served}
use Rattle.octants.proofs.entry.calculate_octants.Goals as goal

pub returns-then-too_many : goal.returns-then-too_many
returns-then-too_many c = too_many _ _ _ _ (ltb-true 32768 c.args.n (sym c.too_many.ensures ∙ c.if-too_many.true))

pub too_short-requires : goal.too_short-requires
too_short-requires c = few _ c.too_many.ensures c.if-too_many.false

pub returns-then-too_short : goal.returns-then-too_short
returns-then-too_short c = too_small _ _ _ _ (few _ c.too_many.ensures c.if-too_many.false) (sym c.too_short.ensures ∙ c.if-too_short.true)

pub list_octants-counts-requires : goal.list_octants-counts-requires
list_octants-counts-requires c =
    let w = room _ _ (sym c.too_short.ensures ∙ c.if-too_short.false) in
    (record { few = few _ c.too_many.ensures c.if-too_many.false; for_keys = w.2; for_rows = w.3; for_order = w.4; for_temp = w.5; for_marks = w.6 }, w.0, w.1)

pub returns : goal.returns
returns c = served _ _ _ _ _ _ (few _ c.too_many.ensures c.if-too_many.false) (sym c.too_short.ensures ∙ c.if-too_short.false) c.list_octants-counts.ensures
