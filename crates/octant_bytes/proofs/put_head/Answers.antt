-- `put_head`: four runs of stores are one, and each pointer is the one before and the length of its list.
use Rattle.octant_bytes.proofs.Laying.{head_stored}
use Rattle.octant_bytes.proofs.put_head.Goals as goal

pub returns : goal.returns
returns c =
    head_stored _ _ _ _ _ _ _ _ _ _ _ _ _ _ _ _ _ c.put_four.ensures c.put_four-2.ensures c.put_four-3.ensures
    c.put_four-4.ensures
    c.behind-p1.ensures c.behind-p2.ensures c.behind-p3.ensures c.behind-p4.ensures
    c.behind-p5.ensures c.behind-p6.ensures
    c.behind-p7.ensures
