-- `refusals::skip` meets its contract: the number read is the definition's.
use mathlib.Core.Path.{ap, ◌∙◌}
use native.Mathlib.Omega.{arith}
use Prim.Native.Nat.{ℕ, max}
use mir.Facts.{to_z-of_z}
use Rattle.walk_steps.specs.Refusals.{whole}
use Rattle.walk_steps.proofs.refusals.skip.Goals as goal

pub returns : goal.returns
returns c =
    let id_is = c.number.ensures.0 ∙ ap whole (to_z-of_z c.ranges.id) in
    (c.max.ensures ∙ ap (λ (n : ℕ). max n 1) id_is, omega (arith, c.max.ensures, c.number.ensures.1))
