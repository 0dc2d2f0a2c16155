-- What is written of a float is read as that float: a NaN stays a NaN, whatever word stands beside it. Assumes nothing.
use Prim.Native.Nat.{ℕ}
use mathlib.Core.Bool.{cond}
use mathlib.Core.Path.{◌≡◌, refl, ap}
use lib.Dec.{T}
use lib.Ieee.{Float, nan, inf, fin, binary32, is_nan, of_bits, fits}
use lib.Ieee.Bits.{of_bits-to_bits}
use Rattle.polygon.specs.Polygons.{nan_or, word_or}

-- 7FC00000 is a NaN's, so every word of `nan_or` is.
nan_word : (word : ℕ) → of_bits binary32 (nan_or word) ≡ nan
unfolding nan_or is_nan of_bits
nan_word word = by (of_bits binary32 word) refl
  where
    by : (y : Float) → of_bits binary32 word ≡ y → of_bits binary32 (cond (is_nan y) word 0x7fc0_0000) ≡ nan
    by nan e = e
    by (inf s) e = refl
    by (fin s m x) e = refl

pub float_back : (x : Float) (word : ℕ) → T (fits binary32 x) → of_bits binary32 (word_or x word) ≡ x
unfolding word_or is_nan
float_back nan word f = nan_word word
float_back (inf s) word f = of_bits-to_bits binary32 (inf s) f
float_back (fin s m e) word f = of_bits-to_bits binary32 (fin s m e) f

-- A NaN stays a NaN, and nothing else becomes one. This is of the word: a triangle's area then gives its low three bits to the kind (rule G3), and with them
-- 7F800001 is +infinity's.
pub nan_stays : (x : Float) (word : ℕ) → T (fits binary32 x) → is_nan (of_bits binary32 (word_or x word)) ≡ is_nan x
nan_stays x word f = ap is_nan (float_back x word f)
