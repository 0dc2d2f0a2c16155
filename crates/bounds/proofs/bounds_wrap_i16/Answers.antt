-- `bounds_wrap_i16` meets its contract: an i16 is read back as the number that it is.
use mathlib.Core.Path.{ap, ◌∙◌}
use mir.Syntax.{w32}
use mir.Val.{to_z, of_z}
use mir.Facts.{to_z-of_z}
use Rattle.float32.specs.Casts.{low16}
use Rattle.bounds.proofs.Read.{low16_read}
use Rattle.bounds.proofs.bounds_wrap_i16.Goals as goal

pub returns : goal.returns
returns c =
    let n = c.args.n in
    low16_read (to_z w32 (of_z w32 n)) c.wrap_i16.ensures ∙ ap low16 (to_z-of_z c.ranges.n)
