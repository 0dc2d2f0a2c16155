-- `tally::total` meets its contract: the sum so far and the places that are left give the whole sum.
use Rattle.std.proofs.Common.{◌≡◌, drop}
use Rattle.replay.specs.Tallies.{total_from}
use Rattle.replay.proofs.tally.total.Given as goal

abbrev pub invariant-loop-count : goal.invariant-loop-count
invariant-loop-count l = (total_from l.sum (drop l.count-index l.counts) ≡ total_from 0 l.counts)
