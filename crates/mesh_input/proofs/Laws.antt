-- An input that is not refused is whole; and the words that are read so far, and behind them what the buffer had.
use Prim.Native.Nat.{ℕ, zero, suc, ◌+◌, ◌*◌, ◌≤◌, ◌<◌}
use native.Mathlib.Omega.{arith}
use native.Mathlib.Numerals.{add-one}
use mathlib.Core.Bool.{Bool, true, false, cond}
use mathlib.Core.List.{List, [], ◌∷◌}
use mathlib.Core.Path.{◌≡◌, refl, sym, ap, ◌∙◌}
use lib.Dec.{ltb, eqb}
use borrow.Author.Tests.{ltb-false, eqb-true}
use lib.ListN.{length, set, length-set, length-append}
use Rattle.std.specs.Prelude.{Result, Ok, Err, ⊤}
use Rattle.base.proofs.StoreLaws.{over_one}
use Rattle.base.specs.Lists.{over}
use Rattle.base.specs.LittleEndian.{le_at}
use Rattle.mesh_input.specs.Input.{words_at, length_of, counts_of, check_of, number_of, refusal_of, Whole}
use Rattle.mesh_input.specs.declared.InputRefusal.{InputRefusal}
use Rattle.mesh_input.specs.declared.InputRefusal.TheVariants.{TooLong, WrongLength}

pub length_words : (bytes : List ℕ) (k n : ℕ) → length (words_at bytes k n) ≡ n
length_words bytes k zero = refl
length_words bytes k (suc n) =
    length-append (words_at bytes k n) (le_at 4 bytes (k + 4 * n) ∷ []) ∙ omega (arith, length_words bytes k n)

pub record Reading (bytes : List ℕ) (k : ℕ) (before words : List ℕ) (i n : ℕ) : Type 0 where
  pub upto : i ≤ n
  pub same : length words ≡ length before
  pub held : words ≡ over (words_at bytes k i) before

pub no_word : (bytes : List ℕ) (k : ℕ) (before : List ℕ) (n : ℕ) → Reading bytes k before before 0 n
no_word bytes k before n = record { upto = omega arith; same = refl; held = refl }

pub word_next : (bytes : List ℕ) (k : ℕ) (before words : List ℕ) (i n w : ℕ) → Reading bytes k before words i n → i < n → n ≤ length before
    → w ≡ le_at 4 bytes (k + 4 * i)
    → Reading bytes k before (set words i w) (i + 1) n
word_next bytes k before words i n w c h room e =
    record {
      upto = omega arith;
      same = length-set words i w ∙ c.same;
      held =
          ap (λ (v : ℕ). set words i v) e
          ∙ ap (λ (l : List ℕ). set l i (le_at 4 bytes (k + 4 * i))) c.held
          ∙ over_one (words_at bytes k i) before (le_at 4 bytes (k + 4 * i)) i (length_words bytes k i) (omega arith)
          ∙ ap (λ (j : ℕ). over (words_at bytes k j) before) (sym (add-one i));
    }

pub all_words : (bytes : List ℕ) (k : ℕ) (before words : List ℕ) (i n : ℕ) → Reading bytes k before words i n → n ≤ i
    → words ≡ over (words_at bytes k n) before
all_words bytes k before words i n c h =
    let e : i ≡ n = omega (arith, c.upto) in
    c.held ∙ ap (λ (j : ℕ). over (words_at bytes k j) before) e

-- ---- an input that is not refused

abbrev tested : Bool → Bool → Bool → Result ⊤ InputRefusal
tested a b c = cond a (Err TooLong) (cond b (Err WrongLength) (cond c (Ok tt) (Err WrongLength)))

passed : (a b c : Bool) → tested a b c ≡ Ok tt → (a ≡ false) × (b ≡ false) × (c ≡ true)
passed true b c e = cc
passed false true c e = cc
passed false false true e = (refl, refl, refl)
passed false false false e = cc

pub whole : (bytes : List ℕ) → check_of bytes ≡ Ok tt → Whole bytes
unfolding check_of
whole bytes e =
    let p = passed (ltb 8192 (length bytes)) (ltb (length bytes) 148) (eqb (length_of (counts_of bytes)) (length bytes)) e in
    record { few = ltb-false 8192 (length bytes) p.0; size = eqb-true (length_of (counts_of bytes)) (length bytes) p.2 }

-- An input whose number is 0 is not refused.
pub not_refused : (bytes : List ℕ) → refusal_of bytes ≡ 0 → Whole bytes
unfolding refusal_of
not_refused bytes = by (check_of bytes) refl
  where
    by : (r : Result ⊤ InputRefusal) → check_of bytes ≡ r → number_of r ≡ 0 → Whole bytes
    by (Ok u) e none = whole bytes e
    by (Err TooLong) e none = absurd (omega arith)
    by (Err WrongLength) e none = absurd (omega arith)
