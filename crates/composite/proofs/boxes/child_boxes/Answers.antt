-- `child_boxes` meets its contract: the checks in their order, and then the boxes.
use Rattle.composite.proofs.BoxLaws.{too_many, given_short, room_short, written}
use Rattle.composite.proofs.boxes.child_boxes.Goals as goal

pub returns-then-n-gt32767 : goal.returns-then-n-gt32767
returns-then-n-gt32767 c = too_many _ _ _ c.if-n-gt32767.true

pub returns-then-children-n : goal.returns-then-children-n
returns-then-children-n c = given_short _ _ _ c.if-n-gt32767.false c.if-children-n.true

pub returns-then-out-n : goal.returns-then-out-n
returns-then-out-n c = room_short _ _ _ c.if-n-gt32767.false c.if-out-n.true

pub returns : goal.returns
returns c =
    written _ _ _ _ c.if-n-gt32767.false c.if-children-n.false c.if-out-n.false c.put_children.ensures
