-- `halves::short_of` meets its contract: a u16 is below 65,536, so its low 16 bits are itself.
use mathlib.Core.Path.{◌≡◌, ap, ◌∙◌}
use Prim.Native.Nat.{◌%◌, ◌^◌, ◌<◌}
use mir.Syntax.{w32}
use mir.Facts.{to_z_pos}
use Rattle.base.proofs.ShortLaws.{same_short}
use Rattle.float32.specs.Casts.{low16, signed16}
use native.Mathlib.Omega.{arith}
use Rattle.polygon.proofs.halves.short_of.Goals as goal

pub returns : goal.returns
returns c =
    let half = c.args.half in
    let bound = c.ranges.half.fits in
    let small : half < 2 ^ 31 = omega arith in
    let same : half % 65536 ≡ half = omega arith in
    same_short c.wrap_i16.result c.wrap_i16.type_inv ∙ c.wrap_i16.ensures ∙ ap low16 (to_z_pos w32 small) ∙ ap signed16 same
