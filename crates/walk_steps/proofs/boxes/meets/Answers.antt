-- `boxes::meets` meets its contract: lane by lane, the upper corner, the lower one turned, and the two that every number passes.
use Rattle.walk_steps.specs.Boxes.{meets}
use Rattle.walk_steps.specs.Steps.Lanes.{plain_of}
use Rattle.walk_steps.proofs.LaneLaws.{below_high, below_low, below_top, all_eight}
use Rattle.walk_steps.proofs.boxes.meets.Goals as goal

pub returns : goal.returns
unfolding meets plain_of
returns c =
    let q = c.args.q in
    let n = c.args.min in
    let x = c.args.max in
    let nf = c.struct_told-1.given in
    let xf = c.struct_told-7-1.given in
    let lanes = c.struct_told-14-1.given in
    let low = lanes.0.1.1 in
    let high = lanes.1.0.1.1 in
    all_eight
    (below_high n.0 q.high.0 nf.0.1 high.0.1)
    (below_high n.1 q.high.1 nf.1.0.1 high.1.0.1)
    (below_high n.2 q.high.2 nf.1.1.0.1 high.1.1.0.1)
    (below_low x.0 q.low.0 xf.0.1 low.0.1)
    (below_low x.1 q.low.1 xf.1.0.1 low.1.0.1)
    (below_low x.2 q.low.2 xf.1.1.0.1 low.1.1.0.1)
    (below_top c.args.first q.first c.ranges.first.sfits lanes.1.1.0.1 c.requires.first_top)
    (below_top c.args.second q.second c.ranges.second.sfits lanes.1.1.1.0.1 c.requires.second_top)
