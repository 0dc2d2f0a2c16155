-- `reorder` meets its contract: the records of the first i positions are written, and the rest is as it was.
use Prim.Native.Nat.{◌<◌}
use mathlib.Core.Path.{sym, ◌∙◌}
use lib.ListN.{take}
use lib.Seq.{get_or-take}
use Rattle.reorder.proofs.RecordLaws.{records_next, order_at}
use native.Mathlib.Omega.{arith}
use Rattle.reorder.proofs.renumbering.reorder.Goals as goal

pub overflow_cast-new : goal.overflow_cast-new
overflow_cast-new c = omega (arith, c.requires.few)

pub place_at-requires : goal.place_at-requires
place_at-requires c = omega (arith, c.requires.long)

pub move_record-requires : goal.move_record-requires
move_record-requires c =
    let l = c.loop-i in
    let a = c.args in
    let below = order_at a.n a.n a.order.now l.i c.requires.long c.requires.below (omega arith) in
    (omega (arith, c.place_at.ensures, below, c.requires.records), omega (arith, c.requires.room), c.requires.small)

pub loop-i-preserved : goal.loop-i-preserved
loop-i-preserved c =
    let l = c.loop-i in
    let a = c.args in
    let below : l.i < a.n = omega arith in
    records_next (take a.n a.order.now) a.lookup.now a.polygons.now a.out.now l.i _ (omega (arith, below, c.requires.room))
    (c.place_at.ensures ∙ sym (get_or-take a.n a.order.now l.i 0 below)) l.invariant c.move_record.ensures
