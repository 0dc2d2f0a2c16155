-- `faults::size_fault` meets its contract: one call an axis.
use mathlib.Core.Path.{◌∙◌}
use Rattle.tree.specs.premises.Faults.{failing, size_fault}
use Rattle.tree.proofs.premises.faults.size_fault.Goals as goal

pub returns : goal.returns
unfolding size_fault
returns c =
    let a = c.args in
    let x = c.sized.ensures in
    let y = c.sized-2.ensures in
    let z = c.sized-3.ensures in
    c.failing.ensures ∙ (λ i. failing a.from (x i) (y i) (z i) a.rest)
