-- Newton's step r ↦ (r + n / r) / 2 for √n, on whole numbers: it leads to no number below the whole root, wherever it starts, and it falls while r² is above n.
use mathlib.Core.Path.{◌≡◌}
use Prim.Native.Nat.{ℕ, zero, suc, ◌+◌, ◌-◌, ◌*◌, ◌/◌, ◌≤◌, ◌<◌}
use native.Mathlib.Nat.{le_trans, le-div_iff_mul-le, div-lt_iff_lt-mul}
use native.Mathlib.Decide.{dec_le}
use native.Mathlib.Omega.{arith}
use Rattle.float32.specs.SquareRoot.{isqrt}
use Rattle.float32.proofs.root.WholeRoot.{isqrt_is}

abbrev pub step : ℕ → ℕ → ℕ
step n r = (r + n / r) / 2

-- Of the pairs a, b with the sum 2 q the pair q, q has the largest product: (q - d) * (q + d) is q² - d².
product_le_square : (a b q : ℕ) → a + b ≡ 2 * q → a * b ≤ q * q
product_le_square a b q e = either (dec_le a b)
  where
    apart : (a b d : ℕ) → a + d ≡ q → b ≡ a + 2 * d → a * b ≤ q * q
    apart a b d m f = rw (← m, f) (omega arith)

    either : Dec (a ≤ b) → a * b ≤ q * q
    either (yes h) = apart a b (q - a) (omega arith) (omega arith)
    either (no f) = omega (arith, apart b a (q - b) (omega arith) (omega arith))

-- For the root q: 2 q - r is at most n / r, since (2 q - r) * r ≤ q² ≤ n.
pub step_above : (n r : ℕ) → 0 < r → isqrt n ≤ step n r
step_above n r h = either (dec_le r (2 * isqrt n))
  where
    either : Dec (r ≤ 2 * isqrt n) → isqrt n ≤ step n r
    either (yes k) =
        omega (
          arith,
          (le-div_iff_mul-le {x = 2 * isqrt n - r} {y = n} h).1
              (le_trans (product_le_square (2 * isqrt n - r) r (isqrt n) (omega arith)) (isqrt_is n).low),
        )
    either (no f) = omega arith

pub square_pos : (n r : ℕ) → n < r * r → 0 < r
square_pos n zero h = absurd (omega arith)
square_pos n (suc r) h = omega arith

-- n / r is below r.
pub step_falls : (n r : ℕ) → n < r * r → step n r < r
step_falls n r h = omega (arith, (div-lt_iff_lt-mul {x = n} {y = r} (square_pos n r h)).1 h)
