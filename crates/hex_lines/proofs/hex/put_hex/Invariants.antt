-- `hex::put_hex`: the first i are put.
use Rattle.hex_lines.proofs.Each.{Putting}
use Rattle.hex_lines.specs.Hex.{byte_text}
use Rattle.hex_lines.proofs.hex.put_hex.Given as goal

abbrev pub invariant-loop-i : goal.invariant-loop-i
invariant-loop-i l = Putting byte_text l.bytes l.initial.out l.out l.i
