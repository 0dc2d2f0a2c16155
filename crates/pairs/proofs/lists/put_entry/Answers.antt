-- `lists::put_entry` meets its contract: the mark and the box behind it are one run of stores.
use Rattle.std.proofs.Common.{◌*◌, arith, length-set}
use Rattle.pairs.proofs.DrawLaws.{entry_stored}
use Rattle.pairs.proofs.lists.put_entry.Goals as goal

pub put_box-requires : goal.put_box-requires
put_box-requires c = simp length-set (omega arith)

pub returns-clause-entries_after : goal.returns-clause-entries_after
returns-clause-entries_after c =
    let start = c.args in
    entry_stored start.shape start.entries.now (7 * start.i) start.s c.next-first.ensures c.presence.ensures c.drawn_box-b.ensures
    c.bits.ensures c.bits-2.ensures c.put_box.ensures
