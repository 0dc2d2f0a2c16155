-- `boxes::turned` meets its contract: the bits turned are −1 − v.
use Rattle.walk_steps.proofs.LaneLaws.{flip_bits}
use Rattle.walk_steps.proofs.boxes.turned.Goals as goal

pub returns : goal.returns
returns c = flip_bits c.args.v c.ranges.v.sfits
