-- `faults::order_fault` meets its contract: the floats compared are the words'.
use mathlib.Core.Path.{ap₂, ◌∙◌}
use lib.Ieee.{le}
use Rattle.math.specs.declared.vec3.Vec3.{Vec3}
use Rattle.tree.specs.premises.Faults.{failing, order_fault}
use Rattle.tree.proofs.premises.faults.order_fault.Goals as goal

pub returns : goal.returns
unfolding order_fault
returns c =
    c.failing.ensures
    ∙ ap₂ (λ (l h : Vec3). failing 7 (le l.x h.x) (le l.y h.y) (le l.z h.z) 0) c.values-low.ensures
    c.values-high.ensures
