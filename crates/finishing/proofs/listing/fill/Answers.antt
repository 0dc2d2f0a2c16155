-- `fill`: what is filled behind the first `count` are as many as four lack.
use native.Mathlib.Omega.{arith}
use Prim.Native.Nat.{◌-◌}
use mathlib.Core.Path.{◌≡◌}
use Rattle.std.proofs.lemmas.Grind.{common_steps}
use Rattle.finishing.proofs.listing.fill.Goals as goal

pub returns : goal.returns
returns c =
    let lacking : c.max-all.result - c.args.count ≡ 4 - c.args.count = omega (arith, c.max-all.ensures) in
    grind (arith, common_steps, lacking)
