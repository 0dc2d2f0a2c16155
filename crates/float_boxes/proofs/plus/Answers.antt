-- `plus`: what its call ensures, and the sum behind it.
use Rattle.math.specs.Vec3s.{◌⊕◌}
use Rattle.float_boxes.specs.Floats.{plus_of}
use Rattle.float_boxes.proofs.plus.Goals as goal

pub returns : goal.returns
unfolding plus_of
returns c =
    let args = c.args in
    λ i. record { vertex = c.add.ensures i; next = args.a.next ⊕ args.b.next }
