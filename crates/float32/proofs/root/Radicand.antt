-- The radicand of `root_bits` has 47 or 48 digits, so its whole root has 24, and the rounded root has no more: the largest radicand is a * (a + 1) for
-- the largest such number a.
use mathlib.Core.Path.{◌≡◌, refl}
use mathlib.Core.Bool.{Bool, true, false, cond}
use Prim.Native.Nat.{ℕ, ◌+◌, ◌-◌, ◌*◌, ◌%◌, ◌^◌, ◌≤◌, ◌<◌}
use native.Mathlib.Nat.{mul-le-mul, lt_of_le_of_lt, mod-eq_of_lt}
use native.Mathlib.Decide.{dec_le}
use native.Mathlib.Omega.{arith}
use lib.Dec.{ltb, lit<}
use lib.Pow.{pow_mono}
use borrow.Author.Tests.{ltb-true}
use Rattle.float32.specs.SquareRoot.{isqrt}
use Rattle.float32.specs.RootSteps.{radicand, rounded}
use Rattle.float32.proofs.root.WholeRoot.{below_root, above_root}

-- ---- a rounded root lies within the bounds of the whole one
rounded_ge : (n q a : ℕ) → a ≤ q → a ≤ rounded n q
rounded_ge n q a h = go (ltb q (n - q * q))
  where
    go : (b : Bool) → a ≤ cond b (q + 1) q
    go true = omega arith
    go false = h

rounded_le : (n q a : ℕ) → q ≤ a → n ≤ a * (a + 1) → rounded n q ≤ a
rounded_le n q a h k = go (ltb q (n - q * q)) (ltb-true q (n - q * q))
  where
    moved : q < n - q * q → Dec (a ≤ q) → q + 1 ≤ a
    moved l (yes g) = absurd (omega (arith, mul-le-mul g g))
    moved l (no f) = omega arith

    go : (b : Bool) → (b ≡ true → q < n - q * q) → cond b (q + 1) q ≤ a
    go true l = moved (l refl) (dec_le a q)
    go false l = h

-- ---- for a significand of 24 digits
module _ (m h : ℕ) (least : 0x80_0000 ≤ m) (most : m < 0x100_0000) where
  pub radicand_ge : 2 ^ 46 ≤ radicand m h
  radicand_ge = mul-le-mul least (pow_mono {i = 23} {j = 23 + h % 2} (omega arith))

  radicand_le : radicand m h ≤ 0xff_ffff * (0xff_ffff + 1)
  radicand_le = mul-le-mul {n₁ = m} {n₂ = 0xff_ffff} (omega arith) (pow_mono {i = 23 + h % 2} {j = 24} (omega arith))

  pub radicand_lt : radicand m h < 2 ^ 48
  radicand_lt = lt_of_le_of_lt radicand_le (lit< tt)

  -- no digit is lost in a word of 64
  pub in_word : radicand m h % 2 ^ 64 ≡ radicand m h
  in_word = mod-eq_of_lt (lt_of_le_of_lt radicand_le (lit< tt))

  pub root_le : isqrt (radicand m h) ≤ 0xff_ffff
  root_le = above_root 0xff_ffff (radicand m h) radicand_lt

  pub kept_ge : 0x80_0000 ≤ rounded (radicand m h) (isqrt (radicand m h))
  kept_ge = rounded_ge (radicand m h) (isqrt (radicand m h)) 0x80_0000 (below_root 0x80_0000 (radicand m h) radicand_ge)

  pub kept_lt : rounded (radicand m h) (isqrt (radicand m h)) < 0x100_0000
  kept_lt = lt_of_le_of_lt (rounded_le (radicand m h) (isqrt (radicand m h)) 0xff_ffff root_le radicand_le) (lit< tt)
