-- `put_items`: the entries of i records are written, and the rest is as it was.
use Rattle.std.proofs.Common.{◌≡◌}
use Rattle.base.specs.Lists.{over}
use Rattle.polygon_items.specs.Items.{items_of}
use Rattle.polygon_items.proofs.put_items.Given as goal

abbrev pub invariant-loop-i : goal.invariant-loop-i
invariant-loop-i l = l.items ≡ over (items_of l.i l.polygons l.vertices) l.initial.items
