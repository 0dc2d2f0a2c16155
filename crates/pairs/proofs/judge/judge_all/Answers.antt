-- `judge::judge_all` meets its contract: the first i places are compared.
use Rattle.std.proofs.Common.{arith}
use Rattle.pairs.proofs.CountLaws.{compared_at}
use Rattle.pairs.proofs.judge.judge_all.Goals as goal

pub returns : goal.returns
returns c = compared_at _ _ _ _ (omega arith) c.loop-i.invariant
