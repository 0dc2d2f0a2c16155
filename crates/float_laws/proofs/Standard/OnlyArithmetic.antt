-- No other functions are the standard's operations: its table has a line for every pair of operands, and of exact results there is one rounding (`Unique`).
use mathlib.Core.Path.{◌≡◌, sym, ◌∙◌}
use mathlib.Core.Logic.{◌⊎◌, inl, inr}
use mathlib.Core.Bool.{true, false}
use Prim.Native.Nat.{suc, ◌*◌, ◌<◌}
use native.Mathlib.Nat.{mul-pos, eq-zero-or-pos, zero-lt-suc}
use lib.Ieee.{Float, nan, inf, fin, Format, up, down, add, sub, mul, div, of_int}
use lib.Ieee.Fits.{down_pos}
use lib.IntN.{ℤ, pos, negsuc}
use Rattle.float_laws.specs.ArithmeticStandard.{Addition, Subtraction, Multiplication, Division, FromInteger}
use Rattle.float_laws.proofs.Standard.Unique.{one_value}
use Rattle.float_laws.proofs.Standard.Arithmetic.{addition, subtraction, multiplication, division, from_integer}

module _ (f : Format) (g : Float → Float → Float) where
  pub only_addition : Addition f g → (x y : Float) → g x y ≡ add f x y
  only_addition i nan y = i.nan_left y ∙ sym ((addition f).nan_left y)
  only_addition i (inf s) nan = i.nan_right (inf s) ∙ sym ((addition f).nan_right (inf s))
  only_addition i (inf true) (inf true) = i.infinities true ∙ sym ((addition f).infinities true)
  only_addition i (inf true) (inf false) = i.opposites true ∙ sym ((addition f).opposites true)
  only_addition i (inf false) (inf true) = i.opposites false ∙ sym ((addition f).opposites false)
  only_addition i (inf false) (inf false) = i.infinities false ∙ sym ((addition f).infinities false)
  only_addition i (inf s) (fin t n d) = i.infinity_left s (fin t n d) tt ∙ sym ((addition f).infinity_left s (fin t n d) tt)
  only_addition i (fin s m e) nan = i.nan_right (fin s m e) ∙ sym ((addition f).nan_right (fin s m e))
  only_addition i (fin s m e) (inf t) = i.infinity_right (fin s m e) t tt ∙ sym ((addition f).infinity_right (fin s m e) t tt)
  only_addition i (fin s m e) (fin t n d) =
      one_value f _ _ (down e * down d) _ _ (mul-pos (down_pos e) (down_pos d)) (i.numbers (fin s m e) (fin t n d) tt tt)
      ((addition f).numbers (fin s m e) (fin t n d) tt tt)

  pub only_subtraction : Subtraction f g → (x y : Float) → g x y ≡ sub f x y
  only_subtraction i nan y = i.nan_left y ∙ sym ((subtraction f).nan_left y)
  only_subtraction i (inf s) nan = i.nan_right (inf s) ∙ sym ((subtraction f).nan_right (inf s))
  only_subtraction i (inf true) (inf true) = i.infinities true ∙ sym ((subtraction f).infinities true)
  only_subtraction i (inf true) (inf false) = i.opposites true ∙ sym ((subtraction f).opposites true)
  only_subtraction i (inf false) (inf true) = i.opposites false ∙ sym ((subtraction f).opposites false)
  only_subtraction i (inf false) (inf false) = i.infinities false ∙ sym ((subtraction f).infinities false)
  only_subtraction i (inf s) (fin t n d) = i.infinity_left s (fin t n d) tt ∙ sym ((subtraction f).infinity_left s (fin t n d) tt)
  only_subtraction i (fin s m e) nan = i.nan_right (fin s m e) ∙ sym ((subtraction f).nan_right (fin s m e))
  only_subtraction i (fin s m e) (inf t) = i.infinity_right (fin s m e) t tt ∙ sym ((subtraction f).infinity_right (fin s m e) t tt)
  only_subtraction i (fin s m e) (fin t n d) =
      one_value f _ _ (down e * down d) _ _ (mul-pos (down_pos e) (down_pos d)) (i.numbers (fin s m e) (fin t n d) tt tt)
      ((subtraction f).numbers (fin s m e) (fin t n d) tt tt)

  pub only_multiplication : Multiplication f g → (x y : Float) → g x y ≡ mul f x y
  only_multiplication i nan y = i.nan_left y ∙ sym ((multiplication f).nan_left y)
  only_multiplication i (inf s) nan = i.nan_right (inf s) ∙ sym ((multiplication f).nan_right (inf s))
  only_multiplication i (inf s) (inf t) = i.infinities s t ∙ sym ((multiplication f).infinities s t)
  only_multiplication i (inf s) (fin t n d) = elim (eq-zero-or-pos (n * up d)) [
    | inl z ↦ i.infinity_by_zero s (fin t n d) tt z ∙ sym ((multiplication f).infinity_by_zero s (fin t n d) tt z)
    | inr p ↦ i.infinity_left s (fin t n d) tt p ∙ sym ((multiplication f).infinity_left s (fin t n d) tt p)
  ]
  only_multiplication i (fin s m e) nan = i.nan_right (fin s m e) ∙ sym ((multiplication f).nan_right (fin s m e))
  only_multiplication i (fin s m e) (inf t) = elim (eq-zero-or-pos (m * up e)) [
    | inl z ↦ i.zero_by_infinity (fin s m e) t tt z ∙ sym ((multiplication f).zero_by_infinity (fin s m e) t tt z)
    | inr p ↦ i.infinity_right (fin s m e) t tt p ∙ sym ((multiplication f).infinity_right (fin s m e) t tt p)
  ]
  only_multiplication i (fin s m e) (fin t n d) =
      one_value f _ _ (down e * down d) _ _ (mul-pos (down_pos e) (down_pos d)) (i.numbers (fin s m e) (fin t n d) tt tt)
      ((multiplication f).numbers (fin s m e) (fin t n d) tt tt)

  pub only_division : Division f g → (x y : Float) → g x y ≡ div f x y
  only_division i nan y = i.nan_left y ∙ sym ((division f).nan_left y)
  only_division i (inf s) nan = i.nan_right (inf s) ∙ sym ((division f).nan_right (inf s))
  only_division i (inf s) (inf t) = i.infinities s t ∙ sym ((division f).infinities s t)
  only_division i (inf s) (fin t n d) = i.infinity_left s (fin t n d) tt ∙ sym ((division f).infinity_left s (fin t n d) tt)
  only_division i (fin s m e) nan = i.nan_right (fin s m e) ∙ sym ((division f).nan_right (fin s m e))
  only_division i (fin s m e) (inf t) = i.infinity_right (fin s m e) t tt ∙ sym ((division f).infinity_right (fin s m e) t tt)
  only_division i (fin s m e) (fin t n d) = go (eq-zero-or-pos (m * up e)) (eq-zero-or-pos (n * up d))
    where
      go : (m * up e ≡ 0) ⊎ (0 < m * up e) → (n * up d ≡ 0) ⊎ (0 < n * up d) → g (fin s m e) (fin t n d) ≡ div f (fin s m e) (fin t n d)
      go (inl z) (inl w) = i.zero_by_zero (fin s m e) (fin t n d) tt tt z w ∙ sym ((division f).zero_by_zero (fin s m e) (fin t n d) tt tt z w)
      go (inr p) (inl w) = i.by_zero (fin s m e) (fin t n d) tt tt p w ∙ sym ((division f).by_zero (fin s m e) (fin t n d) tt tt p w)
      go v (inr q) =
          one_value f _ _ (n * up d * down e) _ _ (mul-pos q (down_pos e)) (i.numbers (fin s m e) (fin t n d) tt tt q)
          ((division f).numbers (fin s m e) (fin t n d) tt tt q)

pub only_from_integer : (f : Format) (g : ℤ → Float) → FromInteger f g → (n : ℤ) → g n ≡ of_int f n
only_from_integer f g i (pos n) = one_value f false n 1 (g (pos n)) (of_int f (pos n)) (zero-lt-suc 0) (i.at_least_zero n) ((from_integer f).at_least_zero n)
only_from_integer f g i (negsuc n) =
    one_value f true (suc n) 1 (g (negsuc n)) (of_int f (negsuc n)) (zero-lt-suc 0) (i.below_zero n) ((from_integer f).below_zero n)
