-- `bounds_cmp_vec3` meets its contract: the number of the ordering that the call ensures.
use Rattle.math.specs.Vec3s.{cmp_vec3_of}
use mathlib.Core.Path.{ap, ◌∙◌}
use Rattle.answers.specs.Numbers.{ordering_number}
use Rattle.bounds.proofs.Read.{ordering_read}
use Rattle.bounds.proofs.bounds_cmp_vec3.Goals as goal

pub returns : goal.returns
returns c =
    let a = c.args in
    ordering_read (cmp_vec3_of a.a a.b) (c.ordering_number.ensures ∙ ap ordering_number c.cmp_vec3.ensures)
