-- `judge::judge_all` meets its contract: the first i places are compared.
use Rattle.pairs.specs.Judging.{Compared}
use Rattle.pairs.proofs.judge.judge_all.Given as goal

abbrev pub invariant-loop-i : goal.invariant-loop-i
invariant-loop-i l = Compared l.list l.query l.seen l.i l.m
