-- `hex::put_byte`: two stores are one run of stores.
use native.Mathlib.Numerals.{add-one}
use lib.ListN.{length-set}
use Rattle.hex_lines.specs.Hex.{byte_text}
use native.Mathlib.Omega.{arith}
use Rattle.hex_lines.proofs.hex.put_byte.Goals as goal

pub bounds-out-at-2 : goal.bounds-out-at-2
bounds-out-at-2 c = simp length-set (omega arith)

pub returns : goal.returns
unfolding byte_text
returns c = rw (add-one, c.digit.ensures, c.digit-2.ensures)
