-- `entry::build_bvh` meets its contract. The loop's invariant: the first i items are taken apart, and the rest of the words is as it was.
use Rattle.std.proofs.Common.{◌≡◌, ◌≤◌, length}
use Rattle.bvh.specs.Entry.{taken_of}
use Rattle.bvh.proofs.ItemWords.{apart}
use Rattle.bvh.proofs.entry.build_bvh.Given as goal

abbrev pub invariant-loop-i : goal.invariant-loop-i
invariant-loop-i l = (l.i ≤ l.n) × (l.n ≡ taken_of (length l.items) (length l.initial.entries)) × (l.entries ≡ apart l.items l.initial.entries l.i)
