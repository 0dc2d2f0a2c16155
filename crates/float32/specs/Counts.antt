-- Whole numbers as floats. Definitions only.
use Rattle.std.specs.Prelude.{ℕ, pos, Float}
use Rattle.std.specs.Float.{binary32}
use Rattle.std.specs.Float.Ieee.{of_int}

-- Rule F11 (Rust Reference, numeric cast): `n as f32`, which is exact up to 2 ^ 24.
unfoldable pub of_count : ℕ → Float
of_count n = of_int binary32 (pos n)
