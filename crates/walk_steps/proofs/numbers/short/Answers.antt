-- `numbers::short` meets its contract: a number below 65,536 is its low 16 bits.
use mathlib.Core.Path.{◌≡◌, ap, ◌∙◌}
use Prim.Native.Nat.{◌%◌, ◌^◌, ◌<◌}
use native.Mathlib.Omega.{arith}
use mir.Syntax.{w32}
use mir.Facts.{to_z_pos}
use Rattle.base.proofs.ShortLaws.{same_short}
use Rattle.float32.specs.Casts.{low16, signed16}
use Rattle.walk_steps.proofs.numbers.short.Goals as goal

pub returns : goal.returns
returns c =
    let a = c.args in
    let p = c.requires in
    let small : a.bits < 2 ^ 31 = omega (arith, p) in
    let same : a.bits % 65536 ≡ a.bits = omega (arith, p) in
    same_short c.wrap_i16.result c.wrap_i16.type_inv ∙ c.wrap_i16.ensures ∙ ap low16 (to_z_pos w32 small) ∙ ap signed16 same
