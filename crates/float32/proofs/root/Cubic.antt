-- The cubic of `guess` keeps within bounds, as each of its terms is at most the coefficients so far.
use Prim.Native.Nat.{ℕ, ◌+◌, ◌-◌, ◌*◌, ◌/◌, ◌≤◌, ◌<◌}
use native.Mathlib.Nat.{mul-le-mul}
use native.Mathlib.Omega.{arith}

abbrev pub bend : ℕ → ℕ
bend y = 35565631 + y * 26776358 / 0x80_0000

abbrev pub slope : ℕ → ℕ
slope y = 382447310 + y * bend y / 0x80_0000

abbrev pub cubic : ℕ → ℕ
cubic y = 1518605656 - y * slope y / 0x80_0000

share : (y c m : ℕ) → y ≤ 0x80_0000 → c ≤ m → y * c / 0x80_0000 ≤ m
share y c m h k = omega (arith, mul-le-mul h k)

module _ (y : ℕ) (h : y ≤ 0x80_0000) where
  bend_le : bend y ≤ 62341989
  bend_le = omega (arith, share y 26776358 26776358 h (omega arith))

  pub bend_product : y * bend y ≤ 0x80_0000 * 62341989
  bend_product = mul-le-mul h bend_le

  pub slope_le : slope y ≤ 444789299
  slope_le = omega (arith, share y (bend y) 62341989 h bend_le)

  pub slope_product : y * slope y ≤ 0x80_0000 * 444789299
  slope_product = mul-le-mul h slope_le

  pub taken : y * slope y / 0x80_0000 ≤ 444789299
  taken = share y (slope y) 444789299 h slope_le

  cubic_ge : 1073816357 ≤ cubic y
  cubic_ge = omega (arith, taken)

  module _ (f : ℕ) (least : 1073741824 ≤ f) (most : f ≤ 1518500250) where
    pub product_le : cubic y * f ≤ 1518605656 * 1518500250
    product_le = mul-le-mul {n₁ = cubic y} {n₂ = 1518605656} (omega arith) most

    product_ge : 1073816357 * 1073741824 ≤ cubic y * f
    product_ge = mul-le-mul cubic_ge least

    pub guess_within : (0x80_0000 ≤ cubic y * f / 0x20_0000_0000) × (cubic y * f / 0x20_0000_0000 < 0x200_0000)
    guess_within = go (cubic y * f) product_ge product_le
      where
        go : (p : ℕ) → 1073816357 * 1073741824 ≤ p → p ≤ 1518605656 * 1518500250 → (0x80_0000 ≤ p / 0x20_0000_0000) × (p / 0x20_0000_0000 < 0x200_0000)
        go p a b = (omega arith, omega arith)
