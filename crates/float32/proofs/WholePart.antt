-- What the casts give by the whole part of x and its sign, and that x's word tells both: by the number that a pattern stands for. Assumes nothing.
use mathlib.Core.Path.{◌≡◌, refl, sym, ap, ◌∙◌, subst}
use mathlib.Core.Logic.{inl, inr}
use mathlib.Core.Bool.{Bool, true, false, cond}
use Prim.Native.Nat.{ℕ, ◌*◌, ◌/◌, ◌%◌, ◌^◌, ◌≤◌, ◌<◌, min}
use native.Mathlib.Nat.{div-lt_iff_lt-mul, le-div_iff_mul-le, le_of_lt, eq-or-lt_of_le}
use native.Mathlib.Decide.{dec_le}
use native.Mathlib.Omega.{arith}
use lib.Dec.{T, leb, lit≤}
use lib.IntN.{ℤ, pos, neg_ℤ}
use lib.Pow.{pow_pos}
use lib.Ieee.{Float, nan, inf, fin, up, down, binary32, fits, is_nan, to_bits, of_bits, to_signed, lt, ne, neg}
use lib.Ieee.Fits.{down_pos}
use lib.Ieee.Bits.{of_bits-to_bits}
use lib.Ieee.Exact.{HasValue}
use lib.Ieee.Nearest.{div_same}
use borrow.Author.Tests.{ltb-true, ltb-false, lt-leb, le-leb}
use Rattle.float32.specs.Casts.{limit, truncated_of}
use Rattle.float32.specs.RootSteps.{magnitude}
use Rattle.float32.specs.CastSteps.{number_word, cut_size}
use Rattle.float32.proofs.CastLaws.{truncated_of_nan_lem}
use Rattle.float32.proofs.Keys.{word_inf}
use Rattle.float32.proofs.Patterns.{a_nan, ne_self}
use Rattle.float32.proofs.root.Cases.{value_is}
use Rattle.float32.proofs.Truncation as Truncation

-- x is ± q and a fraction, and below zero where s is true. An infinity is past every end, and a NaN is taken for 0.
abbrev Whole : Float → Bool → ℕ → Type 0
Whole nan s q = (s ≡ false) × (q ≡ 0)
Whole (inf t) s q = (t ≡ s) × (0x8000_0000 ≤ q)
Whole (fin t m e) s q = (t ≡ s) × (m * up e / down e ≡ q)

-- ---- the word of x tells it
is_finite : (w : ℕ) (t : Bool) (m : ℕ) (e : ℤ) → of_bits binary32 w ≡ fin t m e → w % 0x8000_0000 < 0x7f80_0000
is_finite w t m e x = go (dec_le 0x7f80_0000 (w % 0x8000_0000))
  where
    number : Float → Type 0
    number nan = ⊥
    number (inf s) = ⊥
    number (fin s n d) = Unit

    go : Dec (0x7f80_0000 ≤ w % 0x8000_0000) → w % 0x8000_0000 < 0x7f80_0000
    go (no h) = omega arith
    go (yes h) = elim (eq-or-lt_of_le h) [
      | inl k ↦ absurd (subst number (sym x ∙ word_inf w (sym k)) tt)
      | inr k ↦ absurd (subst number (sym x ∙ a_nan w k) tt)
    ]

value_whole : (x : Float) (s : Bool) (a : ℕ) → HasValue x s a (2 ^ 149) → Whole x s (a / 2 ^ 149)
value_whole nan s a h = absurd h
value_whole (inf t) s a h = absurd h
value_whole (fin t m e) s a h = (h.0, div_same (m * up e) (down e) a (2 ^ 149) (down_pos e) (pow_pos 149) h.1)

word_whole : (x : Float) → T (fits binary32 x) → Whole x (leb 0x8000_0000 (number_word x)) (magnitude (number_word x % 0x8000_0000) / 2 ^ 149)
unfolding is_nan to_bits
word_whole nan f = (refl, refl)
word_whole (inf true) f = (refl, lit≤ tt)
word_whole (inf false) f = (refl, lit≤ tt)
word_whole (fin t m e) f =
    let w = to_bits binary32 (fin t m e) in
    let x : of_bits binary32 w ≡ fin t m e = of_bits-to_bits binary32 (fin t m e) f in
    value_whole (fin t m e) (leb 0x8000_0000 w) (magnitude (w % 0x8000_0000))
    (subst (λ (v : Float). HasValue v (leb 0x8000_0000 w) (magnitude (w % 0x8000_0000)) (2 ^ 149)) x
    (value_is w (leb 0x8000_0000 w) (w % 0x8000_0000) refl refl (is_finite w t m e x)))

-- ---- the cast to an i32
abbrev signed : Bool → ℕ → ℕ → ℤ
signed s p q = cond s (neg_ℤ (pos p)) (pos q)

at_end : (c q : ℕ) → c ≤ q → c ≡ min q c
at_end c q h = omega arith

cast_whole : (x : Float) (s : Bool) (q : ℕ) → Whole x s q → to_signed 31 x ≡ signed s (min q 0x8000_0000) (min q 0x7fff_ffff)
unfolding to_signed
cast_whole nan s q h = rw (h.0, h.1)
cast_whole (inf true) s q h = rw (← h.0) (ap (λ (n : ℕ). neg_ℤ (pos n)) (at_end 0x8000_0000 q h.1))
cast_whole (inf false) s q h = rw (← h.0) (ap pos (at_end 0x7fff_ffff q (le_of_lt h.1)))
cast_whole (fin t m e) s q h =
    ap (λ (q : ℕ). signed t (min q 0x8000_0000) (min q 0x7fff_ffff)) h.1 ∙ ap (λ (t : Bool). signed t (min q 0x8000_0000) (min q 0x7fff_ffff)) h.0

-- ---- a query's corner
module _ (n d : ℕ) (D : 0 < d) where
  past : 32767 * d < n * 1 → 32767 ≡ min (n / d) 32767
  past h = at_end 32767 (n / d) ((le-div_iff_mul-le D).1 (omega arith))

  inside : n * 1 ≤ 32767 * d → n / d < 32768
  inside h = (div-lt_iff_lt-mul {k = d} {x = n} {y = 32768} D).1 (omega arith)

not_nan : (t : Bool) (m : ℕ) (e : ℤ) → ne (fin t m e) (fin t m e) ≡ false
unfolding is_nan
not_nan t m e = ne_self (fin t m e)

below : (m : ℕ) (e : ℤ) → truncated_of (fin true m e) ≡ neg_ℤ (pos (min (m * up e / down e) 32767))
unfolding lt of_bits neg to_signed
below m e = go (lt (fin true m e) (neg limit)) refl
  where
    one_less : (n : ℕ) → n < 32768 → min n 32768 ≡ min n 32767
    one_less n h = omega arith

    go : (b : Bool) → lt (fin true m e) (neg limit) ≡ b → truncated_of (fin true m e) ≡ neg_ℤ (pos (min (m * up e / down e) 32767))
    go true h =
        sym (Truncation.low_end (fin true m e) h)
        ∙ ap (λ (n : ℕ). neg_ℤ (pos n)) (past (m * up e) (down e) (down_pos e) (ltb-true (32767 * down e) (m * up e * 1) h))
    go false h =
        sym (Truncation.inside (fin true m e) h refl (not_nan true m e))
        ∙ ap (λ (n : ℕ). neg_ℤ (pos n)) (one_less (m * up e / down e) (inside (m * up e) (down e) (down_pos e) (ltb-false (32767 * down e) (m * up e * 1) h)))

above : (m : ℕ) (e : ℤ) → truncated_of (fin false m e) ≡ pos (min (m * up e / down e) 32767)
unfolding lt of_bits neg to_signed
above m e = go (lt limit (fin false m e)) refl
  where
    go : (b : Bool) → lt limit (fin false m e) ≡ b → truncated_of (fin false m e) ≡ pos (min (m * up e / down e) 32767)
    go true h =
        sym (Truncation.high_end (fin false m e) refl h)
        ∙ ap pos (past (m * up e) (down e) (down_pos e) (ltb-true (32767 * down e) (m * up e * 1) h))
    go false h = sym (Truncation.inside (fin false m e) refl h (not_nan false m e))

truncated_whole : (x : Float) (s : Bool) (q : ℕ) → Whole x s q → truncated_of x ≡ signed s (min q 32767) (min q 32767)
unfolding lt of_bits neg
truncated_whole nan s q h = truncated_of_nan_lem ∙ rw (h.0, h.1)
truncated_whole (inf true) s q h =
    rw (← h.0) (sym (Truncation.low_end (inf true) refl) ∙ ap (λ (n : ℕ). neg_ℤ (pos n)) (at_end 32767 q (omega (arith, h.1))))
truncated_whole (inf false) s q h =
    rw (← h.0) (sym (Truncation.high_end (inf false) refl refl) ∙ ap pos (at_end 32767 q (omega (arith, h.1))))
truncated_whole (fin true m e) s q h = rw (← h.0, ← h.1) (below m e)
truncated_whole (fin false m e) s q h = rw (← h.0, ← h.1) (above m e)

-- ---- from the word w and the size, as the code has them
module _ (x : Float) (f : T (fits binary32 x)) (w size : ℕ) (at : w ≡ number_word x) (cut : size ≡ cut_size (w % 0x8000_0000)) where
  abbrev q : ℕ
  q = magnitude (w % 0x8000_0000) / 2 ^ 149

  told : Whole x (leb 0x8000_0000 w) q
  told = subst (λ (w : ℕ). Whole x (leb 0x8000_0000 w) (magnitude (w % 0x8000_0000) / 2 ^ 149)) (sym at) (word_whole x f)

  capped : (c : ℕ) → c ≤ 0x8000_0000 → min q c ≡ min size c
  capped c h = rw cut (twice q)
    where
      twice : (q : ℕ) → min q c ≡ min (min q 0x8000_0000) c
      twice q = omega arith

  pub cast_below : 0x8000_0000 ≤ w → neg_ℤ (pos size) ≡ to_signed 31 x
  cast_below h =
      sym
      (cast_whole x (leb 0x8000_0000 w) q told
      ∙ ap (λ (b : Bool). signed b (min q 0x8000_0000) (min q 0x7fff_ffff)) (le-leb 0x8000_0000 w h)
      ∙ ap (λ (n : ℕ). neg_ℤ (pos n)) (sym cut))

  pub cast_above : w < 0x8000_0000 → pos (min size 0x7fff_ffff) ≡ to_signed 31 x
  cast_above h =
      sym
      (cast_whole x (leb 0x8000_0000 w) q told
      ∙ ap (λ (b : Bool). signed b (min q 0x8000_0000) (min q 0x7fff_ffff)) (lt-leb 0x8000_0000 w h)
      ∙ ap pos (capped 0x7fff_ffff (lit≤ tt)))

  truncated_is : truncated_of x ≡ signed (leb 0x8000_0000 w) (min size 32767) (min size 32767)
  truncated_is =
      truncated_whole x (leb 0x8000_0000 w) q told ∙ ap (λ (n : ℕ). signed (leb 0x8000_0000 w) n n) (capped 32767 (lit≤ tt))

  pub truncated_below : 0x8000_0000 ≤ w → neg_ℤ (pos (min size 32767)) ≡ truncated_of x
  truncated_below h = sym (truncated_is ∙ ap (λ (b : Bool). signed b (min size 32767) (min size 32767)) (le-leb 0x8000_0000 w h))

  pub truncated_above : w < 0x8000_0000 → pos (min size 32767) ≡ truncated_of x
  truncated_above h = sym (truncated_is ∙ ap (λ (b : Bool). signed b (min size 32767) (min size 32767)) (lt-leb 0x8000_0000 w h))
