-- The lesser and the greater of two: each is one of the two, off NaN a bound of both and the tightest one; and which of the two is kept where a NaN stands.
use mathlib.Core.Path.{◌≡◌, refl, sym, subst}
use mathlib.Core.Logic.{◌⊎◌}
use mathlib.Core.Bool.{Bool, true, false, not, cond}
use Prim.Native.Nat.{ℕ}
use lib.Dec.{T}
use lib.Ieee.{Float, nan, inf, fin, lt, le, is_nan, binary32, of_bits}
use Rattle.base.proofs.Truth.{cond_either, cond_both, cond_through}
use Rattle.float32.specs.Extremes.{vmin_of, vmax_of, vmin_word, vmax_word, min_number_of, max_number_of}
use Rattle.float32.proofs.OrderLaws.{le_refl, lt_le, not_lt→le}

-- ---- vmin and vmax: the first where it is beyond the second, else the second
pub vmin_of_either_lem : (a b : Float) → (vmin_of a b ≡ a) ⊎ (vmin_of a b ≡ b)
unfolding vmin_of
vmin_of_either_lem a b = cond_either (lt a b) a b

pub vmax_of_either_lem : (a b : Float) → (vmax_of a b ≡ a) ⊎ (vmax_of a b ≡ b)
unfolding vmax_of
vmax_of_either_lem a b = cond_either (lt b a) a b

-- what holds of both holds of the choice: no NaN, finite, at least c, at most c
pub vmin_of_both_lem : (P : Float → Type 0) (a b : Float) → P a → P b → P (vmin_of a b)
unfolding vmin_of
vmin_of_both_lem P a b h k = cond_both P (lt a b) a b h k

pub vmax_of_both_lem : (P : Float → Type 0) (a b : Float) → P a → P b → P (vmax_of a b)
unfolding vmax_of
vmax_of_both_lem P a b h k = cond_both P (lt b a) a b h k

pub vmin_of_greatest_lem : (a b c : Float) → T (le c a) → T (le c b) → T (le c (vmin_of a b))
vmin_of_greatest_lem a b c h k = vmin_of_both_lem (λ z. T (le c z)) a b h k

pub vmax_of_least_lem : (a b c : Float) → T (le a c) → T (le b c) → T (le (vmax_of a b) c)
vmax_of_least_lem a b c h k = vmax_of_both_lem (λ z. T (le z c)) a b h k

pub vmin_of_le_lem : (a b : Float) → T (not (is_nan a)) → T (not (is_nan b)) → T (le (vmin_of a b) a) × T (le (vmin_of a b) b)
unfolding vmin_of
vmin_of_le_lem a b p q = go (lt a b) refl
  where
    go : (t : Bool) → lt a b ≡ t → T (le (cond t a b) a) × T (le (cond t a b) b)
    go true e = (le_refl a p, lt_le a b (subst T (sym e) tt))
    go false e = (not_lt→le a b p q e, le_refl b q)

pub vmax_of_ge_lem : (a b : Float) → T (not (is_nan a)) → T (not (is_nan b)) → T (le a (vmax_of a b)) × T (le b (vmax_of a b))
unfolding vmax_of
vmax_of_ge_lem a b p q = go (lt b a) refl
  where
    go : (t : Bool) → lt b a ≡ t → T (le a (cond t a b)) × T (le b (cond t a b))
    go true e = (le_refl a p, lt_le b a (subst T (sym e) tt))
    go false e = (not_lt→le b a q p e, le_refl b q)

-- a NaN is dropped as the first, and kept as the second
nan_lt : (x : Float) → lt nan x ≡ false
unfolding lt
nan_lt x = refl

lt_nan : (x : Float) → lt x nan ≡ false
unfolding lt
lt_nan nan = refl
lt_nan (inf s) = refl
lt_nan (fin s m e) = refl

pub vmin_of_nan_first_lem : (b : Float) → vmin_of nan b ≡ b
unfolding vmin_of
vmin_of_nan_first_lem b = rw (nan_lt b)

pub vmin_of_nan_second_lem : (a : Float) → vmin_of a nan ≡ nan
unfolding vmin_of
vmin_of_nan_second_lem a = rw (lt_nan a)

pub vmax_of_nan_first_lem : (b : Float) → vmax_of nan b ≡ b
unfolding vmax_of
vmax_of_nan_first_lem b = rw (lt_nan b)

pub vmax_of_nan_second_lem : (a : Float) → vmax_of a nan ≡ nan
unfolding vmax_of
vmax_of_nan_second_lem a = rw (nan_lt a)

-- ---- the same choice between words
pub vmin_word_either_lem : (a b : ℕ) → (vmin_word a b ≡ a) ⊎ (vmin_word a b ≡ b)
unfolding vmin_word
vmin_word_either_lem a b = cond_either (lt (of_bits binary32 a) (of_bits binary32 b)) a b

pub vmax_word_either_lem : (a b : ℕ) → (vmax_word a b ≡ a) ⊎ (vmax_word a b ≡ b)
unfolding vmax_word
vmax_word_either_lem a b = cond_either (lt (of_bits binary32 b) (of_bits binary32 a)) a b

pub vmin_word_value_lem : (a b : ℕ) → of_bits binary32 (vmin_word a b) ≡ vmin_of (of_bits binary32 a) (of_bits binary32 b)
unfolding vmin_word vmin_of
vmin_word_value_lem a b = cond_through (of_bits binary32) (lt (of_bits binary32 a) (of_bits binary32 b)) a b

pub vmax_word_value_lem : (a b : ℕ) → of_bits binary32 (vmax_word a b) ≡ vmax_of (of_bits binary32 a) (of_bits binary32 b)
unfolding vmax_word vmax_of
vmax_word_value_lem a b = cond_through (of_bits binary32) (lt (of_bits binary32 b) (of_bits binary32 a)) a b

-- ---- Rust's own min and max: they skip a NaN on either side, and off NaN are vmin and vmax with the two exchanged
pub min_number_of_nan_first_lem : (b : Float) → min_number_of nan b ≡ b
unfolding min_number_of is_nan
min_number_of_nan_first_lem b = refl

pub min_number_of_nan_second_lem : (a : Float) → min_number_of a nan ≡ a
unfolding min_number_of is_nan
min_number_of_nan_second_lem nan = refl
min_number_of_nan_second_lem (inf s) = rw (nan_lt (inf s))
min_number_of_nan_second_lem (fin s m e) = rw (nan_lt (fin s m e))

pub max_number_of_nan_first_lem : (b : Float) → max_number_of nan b ≡ b
unfolding max_number_of is_nan
max_number_of_nan_first_lem b = refl

pub max_number_of_nan_second_lem : (a : Float) → max_number_of a nan ≡ a
unfolding max_number_of is_nan
max_number_of_nan_second_lem nan = refl
max_number_of_nan_second_lem (inf s) = rw (lt_nan (inf s))
max_number_of_nan_second_lem (fin s m e) = rw (lt_nan (fin s m e))

pub min_number_of_vmin_of_lem : (a b : Float) → T (not (is_nan a)) → min_number_of a b ≡ vmin_of b a
unfolding min_number_of vmin_of is_nan
min_number_of_vmin_of_lem nan b p = absurd p
min_number_of_vmin_of_lem (inf s) b p = refl
min_number_of_vmin_of_lem (fin s m e) b p = refl

pub max_number_of_vmax_of_lem : (a b : Float) → T (not (is_nan a)) → max_number_of a b ≡ vmax_of b a
unfolding max_number_of vmax_of is_nan
max_number_of_vmax_of_lem nan b p = absurd p
max_number_of_vmax_of_lem (inf s) b p = refl
max_number_of_vmax_of_lem (fin s m e) b p = refl

pub min_number_of_le_lem : (a b : Float) → T (not (is_nan a)) → T (not (is_nan b)) → T (le (min_number_of a b) a) × T (le (min_number_of a b) b)
min_number_of_le_lem a b p q = let h = vmin_of_le_lem b a q p in rw (min_number_of_vmin_of_lem a b p) (h.1, h.0)

pub max_number_of_ge_lem : (a b : Float) → T (not (is_nan a)) → T (not (is_nan b)) → T (le a (max_number_of a b)) × T (le b (max_number_of a b))
max_number_of_ge_lem a b p q = let h = vmax_of_ge_lem b a q p in rw (max_number_of_vmax_of_lem a b p) (h.1, h.0)
