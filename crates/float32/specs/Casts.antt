-- Floats to integers. Definitions only. CastStandard has what the Rust Reference itself says of F6 and F7.
use Rattle.std.specs.Prelude.{ℕ, ◌-◌, ◌%◌, cond, ltb, ℤ, pos, negsuc, Float}
use Rattle.std.specs.Float.Ieee.{is_nan, lt, neg, of_bits, to_signed}
use Rattle.std.specs.Float.{binary32}

-- Rule F6 (Rust Reference, numeric cast): `x as i32`. Toward zero, past either end to that end, 0 for a NaN.
abbrev pub cast_i32 : Float → ℤ
cast_i32 x = to_signed 31 x

-- The low 16 bits of n, in two's complement.
abbrev pub low16bits : ℤ → ℕ
low16bits (pos n) = n % 65536
low16bits (negsuc n) = 65535 - n % 65536

-- The number that 16 bits stand for, in two's complement.
abbrev pub signed16 : ℕ → ℤ
signed16 b = cond (ltb b 32768) (pos b) (negsuc (65535 - b))

-- Rule F7 (01: keep the low 16 bits as a signed number).
abbrev pub low16 : ℤ → ℤ
low16 n = signed16 (low16bits n)

-- Rule F8 (01, node values; bvh.rs, to_short): `x as i32 as i16`.
unfoldable pub short_of : Float → ℤ
short_of x = low16 (cast_i32 x)

-- x, or the end that it is past.
unfoldable pub clamp_of : Float → Float → Float → Float
clamp_of low high x = cond (lt x low) low (cond (lt high x) high x)

-- 32767.0
abbrev pub limit : Float
limit = of_bits binary32 0x46ff_fe00

-- Rule W1 (01, Walk: the query corners): NaN to 0, clamp to 32767 either way, truncate.
unfoldable pub truncated_of : Float → ℤ
unfolding clamp_of
truncated_of x = cond (is_nan x) (pos 0) (to_signed 15 (clamp_of (neg limit) limit x))

-- Rule F9 (01, vertex values; bounds.rs, BoundVertex::from_vec): a stored vertex, by the same steps as a query's corner.
unfoldable pub vertex_of : Float → ℤ
vertex_of x = truncated_of x
