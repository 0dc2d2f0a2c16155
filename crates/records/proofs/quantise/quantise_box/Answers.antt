-- `quantise::quantise_box` meets its contract: where no value wraps by the whole parts, else corner by corner.
use mathlib.Core.Path.{ap, ◌∙◌}
use Rattle.records.specs.Quantise.{quantise_of}
use Rattle.records.specs.Steps.Cut.{shorts_of}
use Rattle.records.proofs.quantise.quantise_box.Goals as goal

pub shorts_inside-requires : goal.shorts_inside-requires
shorts_inside-requires c = (c.all_inside.ensures c.if-all_inside.true).0

pub shorts_inside-requires-then-all_inside : goal.shorts_inside-requires-then-all_inside
shorts_inside-requires-then-all_inside c = (c.all_inside.ensures c.if-all_inside.true).1

pub returns-then-all_inside : goal.returns-then-all_inside
unfolding quantise_of
returns-then-all_inside c =
    let d = c.scaled-d.ensures in
    let e = c.scaled-e.ensures in
    (c.shorts_inside.ensures ∙ ap shorts_of d, c.shorts_inside-then-all_inside.ensures ∙ ap shorts_of e)
