-- `isqrt n` is the whole part of √n, the one r with r² ≤ n < (r + 1)²: by induction on the number of digits of base 4, of which the root has one
-- binary digit each.
use mathlib.Core.Path.{◌≡◌, refl}
use mathlib.Core.Bool.{Bool, true, false, cond}
use Prim.Native.Nat.{ℕ, zero, suc, ◌+◌, ◌*◌, ◌/◌, ◌^◌, ◌≤◌, ◌<◌}
use native.Mathlib.Nat.{le_trans, le_of_eq, lt_of_lt_of_le, lt_of_not-le, not-le_of_lt, le_of_suc-le-suc, mul-le-mul}
use native.Mathlib.Omega.{arith}
use lib.Dec.{leb}
use lib.Ieee.{size}
use lib.Ieee.Digits.{size-lt}
use borrow.Author.Tests.{leb-true, leb-false}
use Rattle.float32.specs.SquareRoot.{whole, isqrt}

pub record WholeRoot (n r : ℕ) : Type 0 where
  pub low : r * r ≤ n
  pub high : n < (r + 1) * (r + 1)

-- one more digit: 2 s or 2 s + 1, for the root s of n / 4
next : (n s : ℕ) (b : Bool) → (b ≡ true → (2 * s + 1) * (2 * s + 1) ≤ n) → (b ≡ false → n < (2 * s + 1) * (2 * s + 1)) → WholeRoot (n / 4) s
    → WholeRoot n (cond b (2 * s + 1) (2 * s))
next n s true h k i = record { low = h refl; high = omega (arith, i.high) }
next n s false h k i = record { low = omega (arith, i.low); high = k refl }

whole_is : (j n : ℕ) → n < 4 ^ j → WholeRoot n (whole j n)
unfolding whole
whole_is zero n h = record { low = omega arith; high = h }
whole_is (suc j) n h =
    let r = 2 * whole j (n / 4) in
    next n (whole j (n / 4)) (leb ((r + 1) * (r + 1)) n) (leb-true ((r + 1) * (r + 1)) n) (leb-false ((r + 1) * (r + 1)) n)
    (whole_is j (n / 4) (omega arith))

pub two_four : (j : ℕ) → 2 ^ j ≤ 4 ^ j
two_four zero = le_of_eq refl
two_four (suc j) = omega (arith, two_four j)

pub isqrt_is : (n : ℕ) → WholeRoot n (isqrt n)
unfolding isqrt
isqrt_is n = whole_is (size n) n (lt_of_lt_of_le (size-lt n) (two_four (size n)))

-- ---- a number is at most the root where its square is at most n, and at least the root where n is below the square of one more
pub le_of_squares : (a b n : ℕ) → a * a ≤ n → n < (b + 1) * (b + 1) → a ≤ b
le_of_squares a b n h k = le_of_suc-le-suc (lt_of_not-le (λ (g : suc b ≤ a). not-le_of_lt k (le_trans (mul-le-mul (more g) (more g)) h)))
  where
    more : suc b ≤ a → b + 1 ≤ a
    more g = omega arith

pub below_root : (a n : ℕ) → a * a ≤ n → a ≤ isqrt n
below_root a n h = le_of_squares a (isqrt n) n h (isqrt_is n).high

pub above_root : (b n : ℕ) → n < (b + 1) * (b + 1) → isqrt n ≤ b
above_root b n k = le_of_squares (isqrt n) b n (isqrt_is n).low k
