-- What the Rust Reference says of casts (operator expressions, numeric cast). Definitions only.
-- A float to a signed integer of h bits beside its sign: toward zero, to the end of the range that it is past, 0 for a NaN.
-- An integer to a smaller one of two's complement: its low bits are kept.
use Rattle.std.specs.Prelude.{ℕ, ◌+◌, ◌*◌, ◌^◌, ◌≤◌, ◌<◌, ◌≡◌, true, false, T, ℤ, pos, neg_ℤ, ◌+ℤ◌, ◌*ℤ◌, Float}
use Rattle.std.specs.Int.Signed.{le_z}
use Rattle.std.specs.Float.{nan, inf, fin}
use Rattle.std.specs.Float.Ieee.{up, down}
use Rattle.float32.specs.Signed.{lowest, highest}

-- q is the size of ± m * 2 ^ e, cut to a whole number
pub record WholePart (q m : ℕ) (e : ℤ) : Type 0 where
  pub reached : q * down e ≤ m * up e
  pub not_passed : m * up e < (q + 1) * down e

-- Rule F6. A number from 2 ^ h on, either way, gives that end; below zero that is the number itself at -2 ^ h, and up to a fraction past it.
pub record Cast (h : ℕ) (cast : Float → ℤ) : Type 0 where
  pub of_nan : cast nan ≡ pos 0
  pub of_infinity : cast (inf false) ≡ highest h
  pub of_minus_infinity : cast (inf true) ≡ lowest h
  pub above_zero : (m : ℕ) (e : ℤ) (q : ℕ) → WholePart q m e → q < 2 ^ h → cast (fin false m e) ≡ pos q
  pub below_zero : (m : ℕ) (e : ℤ) (q : ℕ) → WholePart q m e → q ≤ 2 ^ h → cast (fin true m e) ≡ neg_ℤ (pos q)
  pub past_highest : (m : ℕ) (e : ℤ) → 2 ^ h * down e ≤ m * up e → cast (fin false m e) ≡ highest h
  pub past_lowest : (m : ℕ) (e : ℤ) → 2 ^ h * down e ≤ m * up e → cast (fin true m e) ≡ lowest h

-- Rule F7. The low 16 bits as a signed number: in the range of 16 bits, and n less a multiple of 2 ^ 16.
pub record LowBits (low : ℤ → ℤ) : Type 0 where
  pub least : (n : ℤ) → T (le_z (lowest 15) (low n))
  pub most : (n : ℤ) → T (le_z (low n) (highest 15))
  pub congruent : (n : ℤ) → (k : ℤ) × (n ≡ low n +ℤ k *ℤ pos (2 ^ 16))
