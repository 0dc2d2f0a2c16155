-- The fold by value is the fold of the words, since a choice between words is that between their floats; and where it has no NaN it
-- gives the words back, since a number has one word. By induction on the list, over any box to start from.
use Prim.Native.Nat.{ℕ, ◌+◌, ◌*◌, ◌%◌, ◌<◌}
use native.Mathlib.Omega.{arith}
use mathlib.Core.Path.{◌≡◌, refl, sym, ap, ◌∙◌, subst}
use mathlib.Core.Logic.{⊎_elim}
use mathlib.Core.Bool.{Bool, false, not, ◌||◌}
use mathlib.Core.List.{List, [], ◌∷◌, ◌++◌}
use lib.Dec.{T}
use lib.ListN.{get_or, take, drop, take-append-drop}
use lib.Ieee.{binary32, of_bits, to_bits, is_nan}
use lib.Ieee.Bits.{to_bits-of_bits, nan_bits_is, nan_bits_above}
use borrow.Author.Tests.{le-ltb}
use Rattle.base.proofs.Truth.{neither}
use Rattle.float32.specs.Extremes.{vmin_word, vmax_word}
use Rattle.float32.proofs.ExtremeLaws.{vmin_word_value_lem, vmax_word_value_lem, vmin_word_either_lem, vmax_word_either_lem}
use Rattle.math.specs.declared.vec3.Vec3.{Vec3}
use Rattle.math.specs.declared.words3.Words3.{Words3}
use Rattle.math.specs.Stored.{values_of, bits_of, vmin_words_of, vmax_words_of}
use Rattle.math.specs.Vec3s.{add_of, vmin3_of, vmax3_of}
use Rattle.entries.specs.declared.boxes.BoxWords.{BoxWords}
use Rattle.entries.specs.declared.totals.Totals.{Totals}
use Rattle.entries.specs.Boxes.{box_at}
use Rattle.entries.specs.Folding.{start_box, fold_step, fold_from, fold_box}
use Rattle.entries.specs.Average.{origin, sum_from}
use Rattle.entries.specs.Plain.{Number}
use Rattle.entries.specs.Steps.Totals.{corners_of, totals_by, totals_of, total_step, totals_from, totals_all, any_nan}

-- ---- by value
min_values : (a b : Words3) → values_of (vmin_words_of a b) ≡ vmin3_of (values_of a) (values_of b)
min_values a b = λ i. record { x = vmin_word_value_lem a.x b.x i; y = vmin_word_value_lem a.y b.y i; z = vmin_word_value_lem a.z b.z i }

max_values : (a b : Words3) → values_of (vmax_words_of a b) ≡ vmax3_of (values_of a) (values_of b)
max_values a b = λ i. record { x = vmax_word_value_lem a.x b.x i; y = vmax_word_value_lem a.y b.y i; z = vmax_word_value_lem a.z b.z i }

-- one box more in the sum
abbrev sum_step : Vec3 → BoxWords → Vec3
sum_step s b = add_of (add_of s (values_of b.min)) (values_of b.max)

step_is : (acc b : BoxWords) (s : Vec3) → totals_of (fold_step acc b) (sum_step s b) ≡ total_step (totals_of acc s) (corners_of b)
step_is acc b s = λ i. totals_by (min_values acc.min b.min i) (sum_step s b) (max_values acc.max b.max i)

totals_are : (at : ℕ → BoxWords) (acc : BoxWords) (s : Vec3) (ps : List ℕ) → totals_from at (totals_of acc s) ps ≡ totals_of (fold_from at acc ps) (sum_from at s ps)
totals_are at acc s [] = refl
totals_are at acc s (p ∷ ps) =
    ap (λ (t : Totals). totals_from at t ps) (sym (step_is acc (at p) s)) ∙ totals_are at (fold_step acc (at p)) (sum_step s (at p)) ps

pub all_totals : (at : ℕ → BoxWords) (ps : List ℕ) → totals_from at (totals_of start_box origin) ps ≡ totals_all at ps
unfolding fold_box
all_totals at ps = totals_are at start_box origin ps

-- the rest after what a list begins with
totals_append : (at : ℕ → BoxWords) (t : Totals) (ps qs : List ℕ) → totals_from at t (ps ++ qs) ≡ totals_from at (totals_from at t ps) qs
totals_append at t [] qs = refl
totals_append at t (p ∷ ps) qs = totals_append at (total_step t (corners_of (at p))) ps qs

pub go_on : (at : ℕ → BoxWords) (ps : List ℕ) (k : ℕ) (t : Totals) → t ≡ totals_all at (take k ps) → totals_from at t (drop k ps) ≡ totals_all at ps
go_on at ps k t e =
    let start : Totals = totals_of start_box origin in
    ap (λ (s : Totals). totals_from at s (drop k ps)) (e ∙ sym (all_totals at (take k ps)))
    ∙ sym (totals_append at start (take k ps) (drop k ps))
    ∙ ap (totals_from at start) (take-append-drop k ps)
    ∙ all_totals at ps

-- ---- what is so of each word that is folded is so of the fold's
abbrev Words : (ℕ → Type 0) → Words3 → Type 0
Words P w = P w.x × P w.y × P w.z

module _ (P : ℕ → Type 0) where
  min_word : (a b : ℕ) → P a → P b → P (vmin_word a b)
  min_word a b h k = ⊎_elim (λ e. subst P (sym e) h) (λ e. subst P (sym e) k) (vmin_word_either_lem a b)

  max_word : (a b : ℕ) → P a → P b → P (vmax_word a b)
  max_word a b h k = ⊎_elim (λ e. subst P (sym e) h) (λ e. subst P (sym e) k) (vmax_word_either_lem a b)

  min_words : (a b : Words3) → Words P a → Words P b → Words P (vmin_words_of a b)
  min_words a b h k = (min_word a.x b.x h.0 k.0, min_word a.y b.y h.1 k.1, min_word a.z b.z h.2 k.2)

  max_words : (a b : Words3) → Words P a → Words P b → Words P (vmax_words_of a b)
  max_words a b h k = (max_word a.x b.x h.0 k.0, max_word a.y b.y h.1 k.1, max_word a.z b.z h.2 k.2)

  words_from : (ws : List ℕ) → ((i : ℕ) → P (get_or ws i 0)) → (acc : BoxWords) → Words P acc.min → Words P acc.max → (ps : List ℕ)
      → Words P (fold_from (box_at ws) acc ps).min × Words P (fold_from (box_at ws) acc ps).max
  words_from ws h acc l u [] = (l, u)
  words_from ws h acc l u (p ∷ ps) =
      words_from ws h (fold_step acc (box_at ws p))
      (min_words acc.min (box_at ws p).min l (h (7 * p + 1), h (7 * p + 1 + 1), h (7 * p + 1 + 2)))
      (max_words acc.max (box_at ws p).max u (h (7 * p + 1 + 3), h (7 * p + 1 + 3 + 1), h (7 * p + 1 + 3 + 2)))
      ps

  fold_words : P 0x7f7f_ffff → P 0xff7f_ffff → (ws : List ℕ) → ((i : ℕ) → P (get_or ws i 0)) → (ps : List ℕ)
      → Words P (fold_box (box_at ws) ps).min × Words P (fold_box (box_at ws) ps).max
  unfolding fold_box
  fold_words l u ws h ps = words_from ws h start_box (l, l, l) (u, u, u) ps

abbrev Word : ℕ → Type 0
Word n = n < 0x1_0000_0000

-- ---- no NaN where no entry has one
number : (n : ℕ) → Number n → is_nan (of_bits binary32 n) ≡ false
number n h = sym (nan_bits_is binary32 n) ∙ nan_bits_above binary32 n ∙ le-ltb 0x7f80_0000 (n % 0x8000_0000) h

numbers : (w : Words3) (v : Vec3) → v ≡ values_of w → Words Number w → any_nan v ≡ false
unfolding any_nan
numbers w v e h = rw (e, number w.x h.0, number w.y h.1, number w.z h.2)

pub none_nan : (ws : List ℕ) → ((i : ℕ) → Number (get_or ws i 0)) → (ps : List ℕ) (low high : Vec3)
    → low ≡ values_of (fold_box (box_at ws) ps).min
    → high ≡ values_of (fold_box (box_at ws) ps).max
    → (any_nan low || any_nan high) ≡ false
none_nan ws h ps low high l u =
    let n = fold_words Number (omega arith) (omega arith) ws h ps in
    rw (numbers (fold_box (box_at ws) ps).min low l n.0) (numbers (fold_box (box_at ws) ps).max high u n.1)

-- ---- a number's word
word_back : (n : ℕ) → Word n → is_nan (of_bits binary32 n) ≡ false → to_bits binary32 (of_bits binary32 n) ≡ n
word_back n h e = to_bits-of_bits binary32 n h (subst (λ (b : Bool). T (not b)) (sym e) tt)

words_back : (w : Words3) (v : Vec3) → Words Word w → v ≡ values_of w → any_nan v ≡ false → bits_of v ≡ w
unfolding any_nan
words_back w v h e n =
    let f = subst (λ (u : Vec3). (is_nan u.x || (is_nan u.y || is_nan u.z)) ≡ false) e n in
    let nx : Bool = is_nan (of_bits binary32 w.x) in
    let ny : Bool = is_nan (of_bits binary32 w.y) in
    let nz : Bool = is_nan (of_bits binary32 w.z) in
    let k = neither nx (ny || nz) f in
    let g = neither ny nz k.1 in
    let x = word_back w.x h.0 k.0 in
    let y = word_back w.y h.1 g.0 in
    let z = word_back w.z h.2 g.1 in
    ap bits_of e ∙ (λ i. record { x = x i; y = y i; z = z i })

-- the fold's words, by its values
pub by_value : (ws : List ℕ) → ((i : ℕ) → Word (get_or ws i 0)) → (ps : List ℕ) (low high : Vec3)
    → low ≡ values_of (fold_box (box_at ws) ps).min
    → high ≡ values_of (fold_box (box_at ws) ps).max
    → (any_nan low || any_nan high) ≡ false
    → (bits_of low ≡ (fold_box (box_at ws) ps).min) × (bits_of high ≡ (fold_box (box_at ws) ps).max)
by_value ws h ps low high l u e =
    let n = neither (any_nan low) (any_nan high) e in
    let w = fold_words Word (omega arith) (omega arith) ws h ps in
    (words_back (fold_box (box_at ws) ps).min low w.0 l n.0, words_back (fold_box (box_at ws) ps).max high w.1 u n.1)
