-- `corners::put_links` meets its contract. The invariant: the links of i polygons are stored, and all else is as it was.
use Rattle.std.proofs.Common.{arith, rules}
use Rattle.corners.specs.Corners.{links_put}
use Rattle.corners.proofs.CornerLaws.{links_next}
use Rattle.corners.proofs.put_links.Goals as goal

pub loop-i-preserved : goal.loop-i-preserved
loop-i-preserved c =
    let a = c.args in
    links_next a.links.now a.polygons.now c.loop-i.i (omega arith) c.loop-i.invariant c.put_one.ensures

pub returns : goal.returns
unfolding links_put
returns c = search rules
