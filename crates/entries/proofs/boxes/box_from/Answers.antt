-- `boxes::box_from` meets its contract: six reads in a row, the max three words after the min.
use native.Mathlib.Omega.{arith}
use Prim.Native.Nat.{◌+◌}
use mathlib.Core.Path.{◌≡◌}
use Rattle.entries.proofs.boxes.box_from.Goals as goal

pub returns : goal.returns
returns c =
    let at = c.args.at in
    let y : at + 3 + 1 ≡ at + 4 = omega arith in
    let z : at + 3 + 2 ≡ at + 5 = omega arith in
    rw (y, z)
