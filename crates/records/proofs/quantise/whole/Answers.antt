-- `quantise::whole` meets its contract: the nearest whole number is the part or the next, and the test tells which (`Cutting`).
use Rattle.records.proofs.Cutting.{kept, lowered}
use Rattle.records.proofs.quantise.whole.Goals as goal

pub returns-then-a-near : goal.returns-then-a-near
returns-then-a-near c = λ n w. lowered c.args.a n w c.if-a-near.true

pub returns-else-a-near : goal.returns-else-a-near
returns-else-a-near c = λ n w. kept c.args.a n w c.if-a-near.false
