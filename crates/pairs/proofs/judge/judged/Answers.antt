-- `judge::judged` meets its contract: each count grows by what its test says of the place.
use Rattle.std.proofs.Common.{arith}
use Rattle.pairs.proofs.CountLaws.{few_meeting, few_missed, few_stray}
use Rattle.pairs.proofs.judge.judged.Goals as goal

pub plus_if-requires : goal.plus_if-requires
plus_if-requires c = omega (arith, few_meeting _ _ _ _ _ c.requires.compared)

pub plus_if-requires-2 : goal.plus_if-requires-2
plus_if-requires-2 c =
    omega (arith, few_missed _ _ _ _ _ c.requires.compared)

pub plus_if-requires-3 : goal.plus_if-requires-3
plus_if-requires-3 c =
    omega (arith, few_stray _ _ _ _ _ c.requires.compared)
