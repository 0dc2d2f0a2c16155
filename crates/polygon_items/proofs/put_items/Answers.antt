-- `put_items`: the entries of i records are written, and the rest is as it was.
use Rattle.std.proofs.Common.{arith}
use Rattle.polygon_items.proofs.ItemLaws.{items_next}
use Rattle.polygon_items.proofs.put_items.Goals as goal

pub loop-i-preserved : goal.loop-i-preserved
loop-i-preserved c =
    let a = c.args in
    items_next a.polygons.now a.vertices.now a.items.now c.loop-i.i (omega arith) c.loop-i.invariant c.put_one.ensures
