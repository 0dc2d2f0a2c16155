-- `hex::put_hex`: the first i are put.
use native.Mathlib.Omega.{arith}
use lib.ListN.{get_or}
use Rattle.std.proofs.lemmas.List.{get_or_default}
use Rattle.hex_lines.proofs.Each.{next_put, byte_size}
use Rattle.hex_lines.specs.Hex.{byte_text}
use Rattle.hex_lines.proofs.hex.put_hex.Goals as goal

pub loop-i-preserved : goal.loop-i-preserved
loop-i-preserved c =
    let bytes = c.args.bytes.now in
    let i = c.loop-i.i in
    next_put byte_text 2 byte_size bytes c.args.out.now c.loop-i.out _ i (get_or bytes i 0) c.loop-i.invariant
    (omega arith) (get_or_default bytes i 0 _ (omega arith)) c.requires c.put_byte.ensures
