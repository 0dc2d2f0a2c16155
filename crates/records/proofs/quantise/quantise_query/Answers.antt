-- `quantise::quantise_query` meets its contract: the cast of the scaled difference, axis by axis.
use mathlib.Core.Path.{ap, ◌∙◌}
use Rattle.float32.specs.Casts.{truncated_of}
use Rattle.math.specs.Vec3s.{vmul_of}
use Rattle.math.specs.declared.vec3.Vec3.{Vec3}
use Rattle.records.specs.Quantise.{quantise_query_of}
use Rattle.records.proofs.Fields.{cast_by, same_vertex}
use Rattle.records.proofs.quantise.quantise_query.Goals as goal

pub returns : goal.returns
unfolding quantise_query_of
returns c =
    let x = c.truncated-x in
    let y = c.truncated-y in
    let z = c.truncated-z in
    let a = c.args in
    let scaled = c.vmul-d.ensures ∙ ap (λ (v : Vec3). vmul_of v a.inverse) c.sub.ensures in
    same_vertex truncated_of c.vmul-d.result x.result y.result z.result x.type_inv y.type_inv z.type_inv x.ensures y.ensures z.ensures
    ∙ ap (cast_by truncated_of) scaled
