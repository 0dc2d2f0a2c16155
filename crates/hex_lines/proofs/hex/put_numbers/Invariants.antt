-- `hex::put_numbers`: the first i are put.
use Rattle.hex_lines.proofs.Each.{Putting}
use Rattle.hex_lines.proofs.hex.put_numbers.Given as goal

abbrev pub invariant-loop-i : goal.invariant-loop-i
invariant-loop-i g l = Putting g.T.Number.bytes_of l.numbers l.initial.out l.out l.i
