-- `quantise::shorts_inside` meets its contract: axis by axis.
use Rattle.float32.specs.Casts.{short_of}
use Rattle.records.proofs.Fields.{same_vertex}
use Rattle.records.proofs.quantise.shorts_inside.Goals as goal

pub returns : goal.returns
returns c =
    let x = c.short_inside-x in
    let y = c.short_inside-y in
    let z = c.short_inside-z in
    same_vertex short_of c.args.d x.result y.result z.result x.type_inv y.type_inv z.type_inv x.ensures y.ensures z.ensures
