-- `text::put_field` meets its contract: a space, and the number after it.
use Rattle.std.specs.Prelude.{◌∷◌, ℤ}
use mathlib.Core.Path.{ap}
use mir.Facts.{to_z-of_z}
use Rattle.listing.specs.Text.{signed, field}
use Rattle.listing.proofs.Putting.{put_as, put_then}
use native.Mathlib.Omega.{arith}
use Rattle.listing.proofs.text.put_field.Goals as goal

pub returns : goal.returns
unfolding field
returns c =
    let value_is = to_z-of_z c.ranges.v in
    put_as (ap (λ (z : ℤ). 32 ∷ signed z) value_is) (omega arith) (put_then c.put_byte-number.ensures c.put_signed.ensures)
