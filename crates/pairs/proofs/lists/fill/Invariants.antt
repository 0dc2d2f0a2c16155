-- `lists::fill` meets its contract: the first i entries are written, and s is the number after them.
use Rattle.std.proofs.Common.{◌≡◌, length}
use Rattle.base.specs.Lists.{over}
use Rattle.pairs.specs.Drawing.{entries_on, drawn_entries}
use Rattle.pairs.proofs.lists.fill.Given as goal

abbrev pub invariant-loop-i : goal.invariant-loop-i
invariant-loop-i l = (length l.entries ≡ length l.initial.entries)
    × (l.s ≡ entries_on l.shape.seed l.i) × (l.entries ≡ over (drawn_entries l.shape l.i) l.initial.entries)
