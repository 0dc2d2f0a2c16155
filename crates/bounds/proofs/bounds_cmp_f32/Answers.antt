-- `bounds_cmp_f32` meets its contract: the number of the ordering that the call ensures.
use Rattle.float32.specs.SortOrder.{cmp_of}
use mathlib.Core.Path.{ap, ◌∙◌}
use Rattle.answers.specs.Numbers.{ordering_number}
use Rattle.bounds.proofs.Read.{ordering_read}
use Rattle.bounds.proofs.bounds_cmp_f32.Goals as goal

pub returns : goal.returns
returns c =
    let a = c.args in
    ordering_read (cmp_of a.a a.b) (c.ordering_number.ensures ∙ ap ordering_number c.cmp_f32.ensures)
