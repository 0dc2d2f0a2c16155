-- `rebuild_bvh` meets its contract: the build over the boxes, and then the records in its order (AnswerLaws).
use Rattle.rebuild.proofs.AnswerLaws.{over_boxes, rebuildable, rebuilt}
use native.Mathlib.Omega.{arith}
use Rattle.rebuild.proofs.rebuild_bvh.Goals as goal

pub put_records-requires : goal.put_records-requires
put_records-requires c =
    let a = c.args in
    let w = c.build_core-built in
    let m = c.requires.0 in
    rebuildable _ _ _ _ m.few _ _ _ _ c.requires.1
    (over_boxes _ _ _ _ m.few a.entries.now _ a.places.now a.temp.now a.stack.now a.rows.now a.centres.now _ _ _
    c.requires.1.entries_room c.put_entries.ensures w.ensures)
    _ _ _ (omega (arith, w.auto.temp, c.requires.1.temp_room)) m.records m.room

pub returns : goal.returns
returns c =
    let a = c.args in
    let w = c.build_core-built in
    let m = c.requires.0 in
    rebuilt _ _ _ _ m.few _ _ _ _ c.requires.1
    (over_boxes _ _ _ _ m.few a.entries.now _ a.places.now a.temp.now a.stack.now a.rows.now a.centres.now _ _ _
    c.requires.1.entries_room c.put_entries.ensures w.ensures)
    _ _ _ c.put_records.ensures
