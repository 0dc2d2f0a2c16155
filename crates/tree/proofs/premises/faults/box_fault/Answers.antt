-- `faults::box_fault` meets its contract: one call a part of the definition.
use mathlib.Core.Path.{ap, ◌∙◌}
use Rattle.tree.specs.premises.Faults.{size_fault, box_fault}
use Rattle.tree.proofs.premises.faults.box_fault.Goals as goal

pub returns : goal.returns
unfolding box_fault
returns c =
    let b = c.args.b in
    c.size_fault-2.ensures
    ∙ ap (size_fault 1 b.min) (c.size_fault.ensures ∙ ap (size_fault 4 b.max) c.order_fault.ensures)
