-- `groups::paste` meets its contract. The loop's invariant: the first j places are copied.
use mathlib.Core.Path.{◌≡◌}
use lib.ListN.{length}
use lib.Seq.{paste}
use Rattle.split.proofs.groups.paste.Given as goal

abbrev pub invariant-loop-j : goal.invariant-loop-j
invariant-loop-j l = (l.dst ≡ paste l.initial.dst l.at l.src l.j) × (length l.dst ≡ length l.initial.dst)
