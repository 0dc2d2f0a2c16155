-- What `root` keeps of √(num / den): for M * 4 ^ g squares of the smallest value, with a root of M that has the format's digits, the whole part of √M,
-- rounded, times 2 ^ g smallest values.
use mathlib.Core.Path.{◌≡◌, refl, sym, ap, ◌∙◌, subst}
use mathlib.Core.Bool.{Bool, true, false, cond, not}
use Prim.Native.Nat.{ℕ, zero, suc, ◌+◌, ◌-◌, ◌*◌, ◌/◌, ◌^◌, ◌≤◌, ◌<◌, compare, Ordering}
use native.Mathlib.Nat.{le_trans, le_of_eq, lt_of_lt_of_le, lt_of_le_of_lt, lt_of_not-le, not-le_of_lt, le_antisymm, mul-le-mul}
use native.Mathlib.Nat.{mul_assoc, mul_comm, mul_right_comm, mul-le-mul_right, mul-lt-mul_of_pos_right, mul-pos, mul-div_cancel, pow-succ'}
use native.Mathlib.Omega.{arith}
use native.Mathlib.Numerals.{add-one}
use lib.Dec.{T, ltb, is_le, compare_is_eq, leb→le, nleb→lt, eqb→eq}
use lib.Pow.{pow-add, pow_pos}
use lib.Ieee.{Format, prec, low, hid, size, nearest, units}
use lib.Ieee.Digits.{size-le}
use borrow.Author.Tests.{ltb-true, ltb-false}
use Rattle.float32.specs.SquareRoot.{isqrt, root}
use Rattle.float32.specs.RootSteps.{rounded}
use Rattle.float32.proofs.root.WholeRoot.{isqrt_is, below_root}
use Rattle.float32.proofs.root.Written.{prec_pos, size_gt}

-- ---- powers of four
pub four : (g : ℕ) → 4 ^ g ≡ 2 ^ g * 2 ^ g
four zero = refl
four (suc g) = rw (pow-succ' 4 g, pow-succ' 2 g, four g) (omega arith)

pub four_pos : (g : ℕ) → 0 < 4 ^ g
four_pos g = subst (λ (z : ℕ). 0 < z) (sym (four g)) (mul-pos (pow_pos g) (pow_pos g))

pub square_pow : (a g : ℕ) → 2 ^ (a + g) * 2 ^ (a + g) ≡ 2 ^ a * 2 ^ a * 4 ^ g
square_pow a g = rw (pow-add 2 a g, four g) (omega arith)

-- ---- what `compare` says
compare_gt : (a b : ℕ) → b < a → compare a b ≡ Ordering.gt
compare_gt a b h = go (compare a b) (leb→le a b)
  where
    go : (o : Ordering) → (T (is_le o) → a ≤ b) → o ≡ Ordering.gt
    go Ordering.lt k = absurd (omega (arith, k tt))
    go Ordering.eq k = absurd (omega (arith, k tt))
    go Ordering.gt k = refl

compare_lt : (a b : ℕ) → a < b → compare a b ≡ Ordering.lt
compare_lt a b h = go (compare a b) (nleb→lt a b) (eqb→eq a b)
  where
    go : (o : Ordering) → (T (not (is_le o)) → b < a) → (T (compare_is_eq o) → a ≡ b) → o ≡ Ordering.lt
    go Ordering.lt k l = refl
    go Ordering.eq k l = absurd (omega (arith, l tt))
    go Ordering.gt k l = absurd (omega (arith, k tt))

-- ---- the rounded root of a whole number: no tie, since (q + 1 / 2)² is not whole
pick : (M q u : ℕ) → 0 < u → nearest q (compare (M * u * 4) ((2 * q + 1) * (2 * q + 1) * u)) ≡ rounded M q
pick M q u U = go (ltb q (M - q * q)) (ltb-true q (M - q * q)) (ltb-false q (M - q * q))
  where
    over : q < M - q * q → (2 * q + 1) * (2 * q + 1) < M * 4
    over h = omega arith

    under : M - q * q ≤ q → M * 4 < (2 * q + 1) * (2 * q + 1)
    under h = omega arith

    go : (b : Bool) → (b ≡ true → q < M - q * q) → (b ≡ false → M - q * q ≤ q)
        → nearest q (compare (M * u * 4) ((2 * q + 1) * (2 * q + 1) * u)) ≡ cond b (q + 1) q
    go true h k =
        ap (nearest q) (compare_gt (M * u * 4) ((2 * q + 1) * (2 * q + 1) * u)
        (lt_of_lt_of_le (mul-lt-mul_of_pos_right (over (h refl)) U) (le_of_eq (mul_right_comm M 4 u)))) ∙ sym (add-one q)
    go false h k =
        ap (nearest q)
        (compare_lt (M * u * 4) ((2 * q + 1) * (2 * q + 1) * u) (lt_of_le_of_lt (le_of_eq (mul_right_comm M u 4)) (mul-lt-mul_of_pos_right (under (k refl)) U)))

-- ---- the digits of the root of M * 4 ^ g, and what is kept of it
module _ (f : Format) (M g : ℕ) (least : hid f * hid f ≤ M) (most : M < 2 ^ prec f * 2 ^ prec f) where
  root_size : size (isqrt (M * 4 ^ g)) ≡ prec f + g
  root_size =
      let n = M * 4 ^ g in
      let p = prec f in
      let some : 2 ^ (p - 1 + g) ≤ isqrt n = below_root (2 ^ (p - 1 + g)) n (le_trans (le_of_eq (square_pow (p - 1) g)) (mul-le-mul_right (4 ^ g) least)) in
      let few : isqrt n < 2 ^ (p + g) =
      lt_of_not-le (λ (h : 2 ^ (p + g) ≤ isqrt n). not-le_of_lt (mul-lt-mul_of_pos_right most (four_pos g))
      (le_trans (le_of_eq (sym (square_pow p g))) (le_trans (mul-le-mul h h) (isqrt_is n).low))) in
      le_antisymm (size-le (isqrt n) (p + g) few) (next p (prec_pos f) (size_gt (isqrt n) (p - 1 + g) some))
    where
      next : (p : ℕ) → 0 < p → p - 1 + g < size (isqrt (M * 4 ^ g)) → p + g ≤ size (isqrt (M * 4 ^ g))
      next p P h = omega arith

  pub root_is : (num den : ℕ) → 0 < den → num * 4 ^ low f ≡ M * 4 ^ g * den → root f num den ≡ units f false (rounded M (isqrt M)) g
  unfolding root
  root_is num den D e =
      let n = num * 4 ^ low f in
      let u = den * 4 ^ g in
      let U : 0 < u = mul-pos D (four_pos g) in
      let k : size (isqrt (n / den)) - prec f ≡ g =
      ap (λ (z : ℕ). size (isqrt (z / den)) - prec f) e ∙ ap (λ (z : ℕ). size (isqrt z) - prec f) (mul-div_cancel (M * 4 ^ g) D)
      ∙ ap (λ (z : ℕ). z - prec f) root_size ∙ off (prec f) in
      let n-is : n ≡ M * u = e ∙ mul_assoc M (4 ^ g) den ∙ ap (λ (z : ℕ). M * z) (mul_comm (4 ^ g) den) in
      let q : isqrt (n / u) ≡ isqrt M = ap (λ (z : ℕ). isqrt (z / u)) n-is ∙ ap isqrt (mul-div_cancel M U) in
      ap (λ (k : ℕ). units f false (nearest (isqrt (n / (den * 4 ^ k)))
      (compare (n * 4) ((2 * isqrt (n / (den * 4 ^ k)) + 1) * (2 * isqrt (n / (den * 4 ^ k)) + 1) * (den * 4 ^ k)))) k) k
      ∙ ap (λ (q : ℕ). units f false (nearest q (compare (n * 4) ((2 * q + 1) * (2 * q + 1) * u))) g) q
      ∙ ap (λ (n : ℕ). units f false (nearest (isqrt M) (compare (n * 4) ((2 * isqrt M + 1) * (2 * isqrt M + 1) * u))) g) n-is
      ∙ ap (λ (z : ℕ). units f false z g) (pick M (isqrt M) u U)
    where
      off : (p : ℕ) → p + g - p ≡ g
      off p = omega arith
