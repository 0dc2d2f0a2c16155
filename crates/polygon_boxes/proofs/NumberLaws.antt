-- The extremes of words that are no NaN's, by their floats: the float that is chosen is no NaN, and its word is the one that is chosen.
use Prim.Native.Nat.{ℕ, ◌<◌}
use mathlib.Core.Path.{◌≡◌, refl, sym, ap, ap₂, subst, ◌∙◌}
use mathlib.Core.Bool.{Bool, true, false, not, cond, ◌&&◌, true≢false}
use lib.Dec.{T}
use lib.Ieee.{Float, binary32, of_bits, to_bits, is_nan, lt}
use lib.Ieee.Bits.{to_bits-of_bits, nan_bits_is}
use Rattle.entries.specs.Plain.{Number}
use Rattle.float32.specs.Extremes.{vmin_of, vmax_of, vmin_word, vmax_word}
use Rattle.float32.proofs.Patterns.{no_nan}

abbrev pub Word : ℕ → Type 0
Word n = n < 0x1_0000_0000

-- a word that is no NaN's
pub record Good (n : ℕ) : Type 0 where
  pub word : Word n
  pub number : Number n

no_nan_of : (n : ℕ) → Good n → T (not (is_nan (of_bits binary32 n)))
no_nan_of n g = subst (λ (b : Bool). T (not b)) (nan_bits_is binary32 n) (no_nan n g.number)

word_of : (n : ℕ) → Good n → to_bits binary32 (of_bits binary32 n) ≡ n
word_of n g = to_bits-of_bits binary32 n g.word (no_nan_of n g)

good_cond : (b : Bool) (m n : ℕ) → Good m → Good n → Good (cond b m n)
good_cond true m n g h = g
good_cond false m n g h = h

float_cond : (b : Bool) (m n : ℕ) → cond b (of_bits binary32 m) (of_bits binary32 n) ≡ of_bits binary32 (cond b m n)
float_cond true m n = refl
float_cond false m n = refl

good_min : (a b : ℕ) → Good a → Good b → Good (vmin_word a b)
unfolding vmin_word
good_min a b g h = good_cond (lt (of_bits binary32 a) (of_bits binary32 b)) a b g h

good_max : (a b : ℕ) → Good a → Good b → Good (vmax_word a b)
unfolding vmax_word
good_max a b g h = good_cond (lt (of_bits binary32 b) (of_bits binary32 a)) a b g h

min_is : (a b : ℕ) → vmin_of (of_bits binary32 a) (of_bits binary32 b) ≡ of_bits binary32 (vmin_word a b)
unfolding vmin_of vmin_word
min_is a b = float_cond (lt (of_bits binary32 a) (of_bits binary32 b)) a b

max_is : (a b : ℕ) → vmax_of (of_bits binary32 a) (of_bits binary32 b) ≡ of_bits binary32 (vmax_word a b)
unfolding vmax_of vmax_word
max_is a b = float_cond (lt (of_bits binary32 b) (of_bits binary32 a)) a b

-- the float x is that of the word n
pub record Of (x : Float) (n : ℕ) : Type 0 where
  pub is : x ≡ of_bits binary32 n
  pub good : Good n

pub of_word : (n : ℕ) → Word n → Number n → Of (of_bits binary32 n) n
of_word n w h = record { is = refl; good = record { word = w; number = h } }

pub of_min : (r x y : Float) (m n : ℕ) → r ≡ vmin_of x y → Of x m → Of y n → Of r (vmin_word m n)
of_min r x y m n e g h = record { is = e ∙ ap₂ vmin_of g.is h.is ∙ min_is m n; good = good_min m n g.good h.good }

pub of_max : (r x y : Float) (m n : ℕ) → r ≡ vmax_of x y → Of x m → Of y n → Of r (vmax_word m n)
of_max r x y m n e g h = record { is = e ∙ ap₂ vmax_of g.is h.is ∙ max_is m n; good = good_max m n g.good h.good }

pub no_nan_by : (x : Float) (n : ℕ) → Of x n → T (not (is_nan x))
no_nan_by x n g = subst (λ (y : Float). T (not (is_nan y))) (sym g.is) (no_nan_of n g.good)

pub word_by : (x : Float) (n : ℕ) → Of x n → to_bits binary32 x ≡ n
word_by x n g = ap (to_bits binary32) g.is ∙ word_of n g.good

-- ---- vertices

-- ---- tests

pub both_true : (a b : Bool) → (a && b) ≡ true → (a ≡ true) × (b ≡ true)
both_true true b e = (refl, e)
both_true false b e = absurd (true≢false (sym e))

pub three_true : (a b c : Bool) → ((a && b) && c) ≡ true → (a ≡ true) × (b ≡ true) × (c ≡ true)
three_true a b c e =
    let p = both_true (a && b) c e in
    let q = both_true a b p.0 in
    (q.0, q.1, p.1)
