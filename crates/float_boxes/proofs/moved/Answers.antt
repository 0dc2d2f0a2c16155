-- `moved`: what its call ensures, and the sum behind it.
use Rattle.math.specs.Vec3s.{◌⊕◌}
use Rattle.float_boxes.specs.Floats.{moved_of}
use Rattle.float_boxes.proofs.moved.Goals as goal

pub returns : goal.returns
unfolding moved_of
returns c =
    let args = c.args in
    λ i. record { vertex = c.vadd_f.ensures i; next = args.a.next ⊕ args.by }
