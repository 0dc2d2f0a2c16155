-- What the private functions of the square root hand to one another, by patterns of binary32. Definitions only.
use Rattle.std.specs.Prelude.{ℕ, ◌+◌, ◌-◌, ◌*◌, ◌/◌, ◌%◌, ◌^◌, ◌≤◌, ◌<◌, cond, ◌≡◌, ltb}
use Rattle.float32.specs.SquareRoot.{isqrt}

-- The number of a pattern that has no sign and is no infinity, in units of the smallest value, 2 ^ -149. A field of 0 has no leading digit.
abbrev pub magnitude : ℕ → ℕ
magnitude b = cond (ltb b 0x80_0000) b ((0x80_0000 + b % 0x80_0000) * 2 ^ (b / 0x80_0000 - 1))

-- That number as m * 2 ^ h / 2 ^ 275, with an m of 24 digits.
pub record Scales (b m h : ℕ) : Type 0 where
  pub least : 0x80_0000 ≤ m
  pub most : m < 0x100_0000
  pub power : h < 380
  pub same : m * 2 ^ h ≡ magnitude b * 2 ^ 126

-- m * 2 ^ h / 2 ^ 275 is radicand m h * 4 ^ (h / 2) / 4 ^ 149.
abbrev pub radicand : ℕ → ℕ → ℕ
radicand m h = m * 2 ^ (23 + h % 2)

-- q, the whole part of √n, or one more where √n is above q + 1 / 2.
abbrev pub rounded : ℕ → ℕ → ℕ
rounded n q = cond (ltb q (n - q * q)) (q + 1) q

-- The pattern of the root of m * 2 ^ h / 2 ^ 275. The root's leading digit adds one to the exponent's field.
abbrev pub root_bits : ℕ → ℕ → ℕ
root_bits m h = h / 2 * 0x80_0000 + rounded (radicand m h) (isqrt (radicand m h))
