-- `quantise::quantise` meets its contract: the cast of the scaled difference, axis by axis.
use mathlib.Core.Path.{ap, ◌∙◌}
use Rattle.float32.specs.Casts.{short_of}
use Rattle.records.specs.Quantise.{quantise_of}
use Rattle.records.proofs.Fields.{cast_by, same_vertex}
use Rattle.records.proofs.quantise.quantise.Goals as goal

pub returns : goal.returns
unfolding quantise_of
returns c =
    let x = c.to_short-x in
    let y = c.to_short-y in
    let z = c.to_short-z in
    let d = c.scaled-d in
    same_vertex short_of d.result x.result y.result z.result x.type_inv y.type_inv z.type_inv x.ensures y.ensures z.ensures
    ∙ ap (cast_by short_of) d.ensures
