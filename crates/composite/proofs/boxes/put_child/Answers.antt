-- `put_child` meets its contract: by the mark zeros, or two rows.
use Rattle.composite.proofs.BoxLaws.{absent_stored, present_stored}
use Rattle.composite.proofs.boxes.put_child.Goals as goal

pub returns-then-children-from-eq0 : goal.returns-then-children-from-eq0
returns-then-children-from-eq0 c =
    absent_stored _ _ _ _ c.if-children-from-eq0.true c.put_le.ensures

pub returns-else-children-from-eq0 : goal.returns-else-children-from-eq0
returns-else-children-from-eq0 c =
    present_stored _ _ _ _ _ c.if-children-from-eq0.false c.box_of-b.ensures c.put_row.ensures c.put_row-else-children-from-eq0.ensures
