-- `judge::mark_all` meets its contract: the items of the first i positions have their marks, and those that had one are counted.
use Rattle.std.proofs.Common.{arith}
use Rattle.pairs.specs.Judging.{twice_at}
use Rattle.pairs.proofs.CountLaws.{count_most}
use Rattle.pairs.proofs.judge.mark_all.Goals as goal

pub plus_if-twice-requires : goal.plus_if-twice-requires
plus_if-twice-requires c =
    let a = c.args in
    omega (arith, c.loop-position.invariant.0, count_most (twice_at a.threshold a.order.now a.handed.now a.seen.now) c.loop-position.position-index)
