-- `boxes::lanes_of` meets its contract: turned twice, the lower corner is itself.
use Rattle.walk_steps.proofs.LaneLaws.{seen_flip, lanes_are}
use Rattle.walk_steps.proofs.boxes.lanes_of.Goals as goal

pub returns : goal.returns
returns c =
    let q = c.args.q in
    let x = seen_flip q.min.0 c.struct_told-1.given.0.1 c.turned.ensures in
    let y = seen_flip q.min.1 c.struct_told-2-1.given.1.0.1 c.turned-2.ensures in
    let z = seen_flip q.min.2 c.struct_told-3-1.given.1.1.0.1 c.turned-3.ensures in
    lanes_are q _ _ _ x y z
