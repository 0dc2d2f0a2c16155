-- `tally::bump` meets its contract: the place's number, and one more stored there.
use Rattle.std.proofs.Common.{ℕ, set, ap}
use Rattle.replay.specs.Tallies.{bumped}
use Rattle.replay.proofs.tally.bump.Goals as goal

pub returns : goal.returns
unfolding bumped
returns c =
    let a = c.args in
    ap (λ (n : ℕ). set a.counts.now a.place n) c.one_more.ensures
