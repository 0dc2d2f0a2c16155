-- `numbers::two_and_two` meets its contract: each byte is below 256.
use mathlib.Core.Path.{◌≡◌}
use Prim.Native.Nat.{◌+◌}
use native.Mathlib.Omega.{arith}
use Rattle.base.specs.LittleEndian.{le_at}
use Rattle.walk_steps.proofs.numbers.two_and_two.Goals as goal

pub returns : goal.returns
unfolding le_at
returns c =
    let a = c.wide-d.ensures in
    let b = c.wide-c.ensures in
    let d = c.wide-b.ensures in
    let e = c.wide-a.ensures in
    let at = c.args.at in
    let next : at + 2 + 1 ≡ at + 3 = omega arith in
    (omega (arith, a, b, d, e), rw next (omega (arith, a, b, d, e)))
