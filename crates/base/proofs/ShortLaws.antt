-- An i16 as the machine reads it from its bits is the number that it was. Assumes nothing.
use mathlib.Core.Path.{◌≡◌}
use Prim.Native.Nat.{◌<◌, ◌^◌}
use lib.IntN.{ℤ}
use lib.Signed.{mag}
use mir.Syntax.{w16}
use mir.Val.{SFits, to_z, of_z}
use mir.Facts.{to_z-of_z}

-- a bound on the size is that it fits
pub fits_short : {v : ℤ} → mag v < 2 ^ 15 → SFits w16 v
fits_short h = record { sfits = h }

pub same_short : (v : ℤ) → mag v < 2 ^ 15 → to_z w16 (of_z w16 v) ≡ v
same_short v h = to_z-of_z (fits_short h)
