-- `judge::mark_all` meets its contract: the items of the first i positions have their marks, and those that had one are counted.
use Rattle.std.proofs.Common.{◌≡◌}
use Rattle.pairs.specs.Judging.{count_of, marks, twice_at}
use Rattle.pairs.proofs.judge.mark_all.Given as goal

abbrev pub invariant-loop-position : goal.invariant-loop-position
invariant-loop-position l = (l.twice ≡ count_of (twice_at l.threshold l.order l.handed l.initial.seen) l.position-index) × (l.seen ≡ marks l.threshold l.order l.handed l.initial.seen l.position-index)
