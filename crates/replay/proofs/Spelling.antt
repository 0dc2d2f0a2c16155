-- Hexadecimal digits and the number that they spell, each digit read by itself. Assumes nothing.
use Rattle.std.proofs.Common.{◌≡◌, ℕ, zero, suc, ◌+◌, ◌-◌, ◌*◌, ◌/◌, ◌%◌, ◌^◌, ◌<◌, ◌≤◌, ◌⊎◌, List, [], ◌∷◌, ◌++◌, length, get_or, take, sym, refl, ap, ◌∙◌, subst, inl, inr, ⊎_elim, true≢false, pow-suc, add-one, arith, length-append, take-suc, take_at, le-ltb, lt-ltb}
use native.Mathlib.Nat.{pow-le-pow_right}
use native.Mathlib.Decide.{dec_lt}
use lib.ListN.{get_or-append}
use lib.Seq.{take-length, get_or_at}
use Rattle.std.proofs.lemmas.Option.{same_Some}
use Rattle.io.specs.Digits.{hex_digit_ascii, last_digits}
use Rattle.replay.specs.Lines.{digit_of, Spells}
use Rattle.std.specs.Prelude.{Option, Some, None, true, IfSome, IsSome, is_some}

-- ---- one digit

digit_glyph : (d : ℕ) → d < 16 → digit_of (hex_digit_ascii d) ≡ Some d
digit_glyph d h = go (dec_lt d 10)
  where
    go : Dec (d < 10) → digit_of (hex_digit_ascii d) ≡ Some d
    go (yes l) = rw (lt-ltb d 10 l, le-ltb (48 + d) 48 (omega arith), lt-ltb (48 + d) 58 (omega arith)) (ap Some (omega arith))
    go (no l) =
        rw (
          le-ltb d 10 (omega arith),
          le-ltb (87 + d) 48 (omega arith),
          le-ltb (87 + d) 58 (omega arith),
          le-ltb (87 + d) 97 (omega arith),
          lt-ltb (87 + d) 103 (omega arith),
        ) (ap Some (omega arith))

-- what a byte may be, with its number
data Kind (c : ℕ) : Option ℕ → Type 0 where
  ten : 48 ≤ c → c < 58 → Kind c (Some (c - 48))
  six : 97 ≤ c → c < 103 → Kind c (Some (c - 87))
  other : Kind c None

kind : (c : ℕ) → Kind c (digit_of c)
kind c = go (dec_lt c 48) (dec_lt c 58) (dec_lt c 97) (dec_lt c 103)
  where
    go : Dec (c < 48) → Dec (c < 58) → Dec (c < 97) → Dec (c < 103) → Kind c (digit_of c)
    go (yes h) b d e = rw (lt-ltb c 48 h) other
    go (no h) (yes b) d e = rw (le-ltb c 48 (omega arith), lt-ltb c 58 b) (ten (omega arith) b)
    go (no h) (no b) (yes d) e = rw (le-ltb c 48 (omega arith), le-ltb c 58 (omega arith), lt-ltb c 97 d) other
    go (no h) (no b) (no d) (yes e) =
        rw (le-ltb c 48 (omega arith), le-ltb c 58 (omega arith), le-ltb c 97 (omega arith), lt-ltb c 103 e) (six (omega arith) e)
    go (no h) (no b) (no d) (no e) =
        rw (le-ltb c 48 (omega arith), le-ltb c 58 (omega arith), le-ltb c 97 (omega arith), le-ltb c 103 (omega arith)) other

-- A digit is below 16, and its byte is the one that is written for it.
abbrev Writes : ℕ → Option ℕ → Type 0
Writes c v = IfSome v (λ d. (d < 16) × (hex_digit_ascii d ≡ c))

written : {c : ℕ} {v : Option ℕ} → Kind c v → Writes c v
written {c} (ten h l) = (omega arith, rw (lt-ltb (c - 48) 10 (omega arith)) (omega arith))
written {c} (six h l) = (omega arith, rw (le-ltb (c - 87) 10 (omega arith)) (omega arith))
written other = tt

pub glyph_digit : (c d : ℕ) → digit_of c ≡ Some d → (d < 16) × (hex_digit_ascii d ≡ c)
glyph_digit c d e = subst (Writes c) e (written (kind c))

-- ---- k digits

pub length_digits : (b k n : ℕ) → length (last_digits b k n) ≡ k
length_digits b zero n = refl
length_digits b (suc k) n = length-append (last_digits b k (n / b)) (hex_digit_ascii (n % b) ∷ []) ∙ ap (λ (m : ℕ). m + 1) (length_digits b k (n / b)) ∙ add-one k

-- one digit more
digits_more : (k n d : ℕ) → d < 16 → last_digits 16 (suc k) (n * 16 + d) ≡ last_digits 16 k n ++ (hex_digit_ascii d ∷ [])
digits_more k n d h =
    let q : (n * 16 + d) / 16 ≡ n = omega arith in
    let r : (n * 16 + d) % 16 ≡ d = omega arith in
    rw (q, r)

-- every byte of a spelling is a digit
last_or_before : {i k : ℕ} → i < suc k → (i < k) ⊎ (i ≡ k)
last_or_before {i} {k} h = go (dec_lt i k)
  where
    go : Dec (i < k) → (i < k) ⊎ (i ≡ k)
    go (yes l) = inl l
    go (no l) = inr (omega arith)

digit_at : (k n i : ℕ) → i < k → IsSome (digit_of (get_or (last_digits 16 k n) i 0))
digit_at zero n i h = absurd (omega arith)
digit_at (suc k) n i h =
    ⊎_elim
    (λ l. rw (get_or-append (last_digits 16 k (n / 16)) (hex_digit_ascii (n % 16) ∷ []) 0 i (rw (length_digits 16 k (n / 16)) l)) (digit_at k (n / 16) i l))
    (λ e. rw (get_or_at (last_digits 16 k (n / 16)) (hex_digit_ascii (n % 16)) [] 0 i (length_digits 16 k (n / 16) ∙ sym e), digit_glyph (n % 16) (omega arith)) refl)
    (last_or_before h)

-- The first i bytes of a text spell n.
pub record Spelling (text : List ℕ) (i n : ℕ) : Type 0 where
  pub spelt : take i text ≡ last_digits 16 i n
  pub bound : n < 16 ^ i

pub none : (text : List ℕ) → Spelling text 0 0
none text = record { spelt = refl; bound = omega arith }

pub more : {text : List ℕ} {i n d : ℕ} → Spelling text i n → i < length text → digit_of (get_or text i 0) ≡ Some d → Spelling text (i + 1) (n * 16 + d)
more {text} {i} {n} {d} s h e =
    let g = glyph_digit (get_or text i 0) d e in
    record {
      spelt = rw (add-one, take-suc text i 0, digits_more i n d g.0, g.1, s.spelt);
      bound = rw (add-one, pow-suc) (omega (arith, s.bound, g.0));
    }

-- Eight digits fit 32 bits.
pub fits : {text : List ℕ} {i n : ℕ} → Spelling text i n → i < 8 → (d : ℕ) → d < 16 → n * 16 + d < 2 ^ 32
fits {text} {i} {n} s h d l =
    let b : 16 ^ i ≤ 16 ^ 7 = pow-le-pow_right {n = 16} (omega arith) {i = i} {j = 7} (omega arith) in
    omega (arith, s.bound)

pub whole : {text : List ℕ} {i n : ℕ} → Spelling text i n → i ≡ length text → Spells text (Some n)
whole {text} {i} {n} s e = (
  sym (take-length text) ∙ subst (λ (k : ℕ). take k text ≡ last_digits 16 k n) e s.spelt,
  subst (λ (k : ℕ). n < 16 ^ k) e s.bound,
)

-- ---- what is read of a text of k bytes

pub spelt_in : (text : List ℕ) (k n : ℕ) → length text ≡ k → Spells text (Some n) → (text ≡ last_digits 16 k n) × (n < 16 ^ k)
spelt_in text k n e s = subst (λ (j : ℕ). (text ≡ last_digits 16 j n) × (n < 16 ^ j)) e s

pub none_in : (text : List ℕ) (k n : ℕ) → length text ≡ k → Spells text None → text ≡ last_digits 16 k n → ⊥
none_in text k n e s = subst (λ (j : ℕ). text ≡ last_digits 16 j n → ⊥) e (s n)

-- Two numbers below 16 ^ k that have the same digits are the same.
last_digit : (k n m : ℕ) → last_digits 16 (suc k) n ≡ last_digits 16 (suc k) m → n % 16 ≡ m % 16
last_digit k n m e =
    let at : (v : ℕ) → get_or (last_digits 16 (suc k) v) k 0 ≡ hex_digit_ascii (v % 16) =
    λ v. get_or_at (last_digits 16 k (v / 16)) (hex_digit_ascii (v % 16)) [] 0 k (length_digits 16 k (v / 16)) in
    same_Some _ _ (
    sym (digit_glyph (n % 16) (omega arith))
    ∙ ap digit_of (sym (at n) ∙ ap (λ (s : List ℕ). get_or s k 0) e ∙ at m)
    ∙ digit_glyph (m % 16) (omega arith)
    )

front_digits : (k n m : ℕ) → last_digits 16 (suc k) n ≡ last_digits 16 (suc k) m → last_digits 16 k (n / 16) ≡ last_digits 16 k (m / 16)
front_digits k n m e =
    let at : (v : ℕ) → take k (last_digits 16 (suc k) v) ≡ last_digits 16 k (v / 16) =
    λ v. take_at (last_digits 16 k (v / 16)) (hex_digit_ascii (v % 16) ∷ []) k (length_digits 16 k (v / 16)) in
    sym (at n) ∙ ap (take k) e ∙ at m

pub digits_injective : (k n m : ℕ) → n < 16 ^ k → m < 16 ^ k → last_digits 16 k n ≡ last_digits 16 k m → n ≡ m
digits_injective zero n m h l e = omega arith
digits_injective (suc k) n m h l e =
    let h' : n / 16 < 16 ^ k = omega (arith, rw pow-suc at h) in
    let l' : m / 16 < 16 ^ k = omega (arith, rw pow-suc at l) in
    let q : n / 16 ≡ m / 16 = digits_injective k (n / 16) (m / 16) h' l' (front_digits k n m e) in
    let r : n % 16 ≡ m % 16 = last_digit k n m e in
    omega arith

-- A byte that is no digit stands in no spelling.
pub none_at : (text : List ℕ) (i n : ℕ) → i < length text → digit_of (get_or text i 0) ≡ None → text ≡ last_digits 16 (length text) n → ⊥
none_at text i n h e s =
    let d : is_some (digit_of (get_or (last_digits 16 (length text) n) i 0)) ≡ true = digit_at (length text) n i h in
    true≢false (sym d ∙ ap (λ (t : List ℕ). is_some (digit_of (get_or t i 0))) (sym s) ∙ ap is_some e)
