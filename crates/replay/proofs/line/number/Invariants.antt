-- `line::number` meets its contract: the bytes before the next one are digits and spell n. A byte that is no digit stands in no spelling.
use Rattle.replay.proofs.Spelling.{Spelling}
use Rattle.replay.proofs.line.number.Given as goal

abbrev pub invariant-loop-byte : goal.invariant-loop-byte
invariant-loop-byte l = Spelling l.text l.byte-index l.n
