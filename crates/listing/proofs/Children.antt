-- The words of the records that are read so far, and behind them what the buffer had; and that they hold the child boxes, all present.
use Rattle.std.specs.Prelude.{◌≡◌, ℕ, zero, suc, ◌+◌, ◌*◌, ◌/◌, ◌%◌, ◌<◌, ◌≤◌, List, ◌∷◌, ◌++◌, length, get_or, take, drop}
use native.Mathlib.Decide.{dec_le}
use native.Mathlib.Omega.{arith}
use native.Mathlib.Numerals.{add-one}
use mathlib.Core.Path.{refl, sym, ap, ◌∙◌}
use lib.ListN.{length-append, get_or-append, get_or-eq_default}
use lib.Seq.{sets, length-sets, take_at, get_or-append-add}
use Rattle.base.proofs.StoreLaws.{over_next}
use Rattle.base.specs.Lists.{up_from, over}
use Rattle.base.specs.LittleEndian.{le_at}
use Rattle.base.proofs.LittleEndian.{le_past}
use Rattle.entries.specs.Boxes.{box_words, box_from}
use Rattle.bvh.specs.Items.{marked}
use Rattle.bvh.specs.Entry.{entries_in}
use Rattle.listing.specs.Listing.{children_of}
use Rattle.listing.specs.Reading.{corner_at, child_box, child_words}

pub length_children : (bytes : List ℕ) (n : ℕ) → length (child_words bytes n) ≡ 7 * n
unfolding child_words
length_children bytes zero = refl
length_children bytes (suc n) = length-append (child_words bytes n) (1 ∷ box_words (child_box bytes (32 * n))) ∙ omega (arith, length_children bytes n)

pub record Children (bytes before words : List ℕ) (i n : ℕ) : Type 0 where
  pub upto : i ≤ n
  pub same : length words ≡ length before
  pub held : words ≡ over (child_words bytes i) before

pub no_child : (bytes before : List ℕ) (n : ℕ) → Children bytes before before 0 n
unfolding child_words
no_child bytes before n = record { upto = omega arith; same = refl; held = refl }

pub child_next : (bytes before words after : List ℕ) (i n : ℕ) → Children bytes before words i n → i < n → 7 * n ≤ length before
    → after ≡ sets words (7 * i) (1 ∷ box_words (child_box bytes (32 * i)))
    → Children bytes before after (i + 1) n
unfolding child_words
child_next bytes before words after i n c h room e =
    let child : List ℕ = 1 ∷ box_words (child_box bytes (32 * i)) in
    record {
      upto = omega arith;
      same = ap length e ∙ length-sets words (7 * i) child ∙ c.same;
      held =
          e
          ∙ ap (λ (l : List ℕ). sets l (7 * i) child) c.held
          ∙ over_next (child_words bytes i) child before (7 * i) (length_children bytes i) (omega arith)
          ∙ ap (λ (k : ℕ). over (child_words bytes k) before) (sym (add-one i));
    }

pub all_children : (bytes before words : List ℕ) (i n : ℕ) → Children bytes before words i n → n ≤ i → words ≡ over (child_words bytes n) before
all_children bytes before words i n c h =
    let e : i ≡ n = omega (arith, c.upto) in
    c.held ∙ ap (λ (k : ℕ). over (child_words bytes k) before) e

-- The words that a build of n entries reads.
pub children_taken : (bytes before words : List ℕ) (n : ℕ) → words ≡ over (child_words bytes n) before → take (7 * n) words ≡ child_words bytes n
children_taken bytes before words n e =
    ap (take (7 * n)) e ∙ take_at (child_words bytes n) (drop (length (child_words bytes n)) before) (7 * n) (length_children bytes n)

-- ---- the entries that the words hold

module _ (bytes : List ℕ) where
  -- word j of record p
  word_in : (n p j : ℕ) → p < n → j < 7 → get_or (child_words bytes n) (7 * p + j) 0 ≡ get_or (1 ∷ box_words (child_box bytes (32 * p))) j 0
  unfolding child_words
  word_in zero p j h k = absurd (omega arith)
  word_in (suc n) p j h k = go (dec_le n p) (λ l. word_in n p j l k)
    where
      go : Dec (n ≤ p) → (p < n → get_or (child_words bytes n) (7 * p + j) 0 ≡ get_or (1 ∷ box_words (child_box bytes (32 * p))) j 0)
          → get_or (child_words bytes n ++ (1 ∷ box_words (child_box bytes (32 * n)))) (7 * p + j) 0 ≡ get_or (1 ∷ box_words (child_box bytes (32 * p))) j 0
      go (yes l) earlier =
          let same : p ≡ n = omega arith in
          let far : 7 * p + j ≡ length (child_words bytes n) + j = omega (arith, length_children bytes n) in
          ap (λ (i : ℕ). get_or (child_words bytes n ++ (1 ∷ box_words (child_box bytes (32 * n)))) i 0) far
          ∙ get_or-append-add (child_words bytes n) (1 ∷ box_words (child_box bytes (32 * n))) j 0
          ∙ ap (λ (i : ℕ). get_or (1 ∷ box_words (child_box bytes (32 * i))) j 0) (sym same)
      go (no l) earlier =
          get_or-append (child_words bytes n) (1 ∷ box_words (child_box bytes (32 * n))) 0 (7 * p + j) (omega (arith, length_children bytes n))
          ∙ earlier (omega arith)

  word_at : (n p j k : ℕ) → p < n → j < 7 → k ≡ 7 * p + j → get_or (child_words bytes n) k 0 ≡ get_or (1 ∷ box_words (child_box bytes (32 * p))) j 0
  word_at n p j k h l e = ap (λ (i : ℕ). get_or (child_words bytes n) i 0) e ∙ word_in n p j h l

  box_in : (n p : ℕ) → p < n → box_from (child_words bytes n) (7 * p + 1) ≡ child_box bytes (32 * p)
  unfolding child_box corner_at
  box_in n p h =
      let a = word_at n p 1 (7 * p + 1) h (omega arith) (omega arith) in
      let b = word_at n p 2 (7 * p + 1 + 1) h (omega arith) (omega arith) in
      let c = word_at n p 3 (7 * p + 1 + 2) h (omega arith) (omega arith) in
      let d = word_at n p 4 (7 * p + 1 + 3) h (omega arith) (omega arith) in
      let e = word_at n p 5 (7 * p + 1 + 3 + 1) h (omega arith) (omega arith) in
      let f = word_at n p 6 (7 * p + 1 + 3 + 2) h (omega arith) (omega arith) in
      λ i. record { min = record { x = a i; y = b i; z = c i }; max = record { x = d i; y = e i; z = f i } }

  -- past the records both are zeros
  both_past : (n k j : ℕ) → 7 * n ≤ k → length bytes ≤ j → get_or (child_words bytes n) k 0 ≡ le_at 4 bytes j
  both_past n k j h l = get_or-eq_default (child_words bytes n) 0 {n = k} (omega (arith, length_children bytes n)) ∙ sym (le_past 4 bytes j l)

  box_past : (n p : ℕ) → n ≤ p → length bytes ≤ 32 * n → box_from (child_words bytes n) (7 * p + 1) ≡ child_box bytes (32 * p)
  unfolding child_box corner_at
  box_past n p h l =
      let at = 32 * p in
      let a = both_past n (7 * p + 1) at (omega arith) (omega arith) in
      let b = both_past n (7 * p + 1 + 1) (at + 4) (omega arith) (omega arith) in
      let c = both_past n (7 * p + 1 + 2) (at + 8) (omega arith) (omega arith) in
      let d = both_past n (7 * p + 1 + 3) (at + 16) (omega arith) (omega arith) in
      let e = both_past n (7 * p + 1 + 3 + 1) (at + 16 + 4) (omega arith) (omega arith) in
      let f = both_past n (7 * p + 1 + 3 + 2) (at + 16 + 8) (omega arith) (omega arith) in
      λ i. record { min = record { x = a i; y = b i; z = c i }; max = record { x = d i; y = e i; z = f i } }

  box_at_lem : (n p : ℕ) → length bytes ≤ 32 * n → box_from (child_words bytes n) (7 * p + 1) ≡ child_box bytes (32 * p)
  box_at_lem n p l = go (dec_le n p)
    where
      go : Dec (n ≤ p) → box_from (child_words bytes n) (7 * p + 1) ≡ child_box bytes (32 * p)
      go (yes h) = box_past n p h l
      go (no h) = box_in n p (omega arith)

  -- every one is marked
  marks : (n at m : ℕ) → at + m ≤ n → marked at m (child_words bytes n) ≡ up_from at m
  marks n at zero h = refl
  marks n at (suc m) h =
      let mark : get_or (child_words bytes n) (7 * at) 0 ≡ 1 = word_at n at 0 (7 * at) (omega arith) (omega arith) (omega arith) in
      rw mark (ap (λ (l : List ℕ). at ∷ l) (marks n (at + 1) m (omega arith)))

  pub children_are : length bytes % 32 ≡ 0 → entries_in (length bytes / 32) (child_words bytes (length bytes / 32)) ≡ children_of bytes
  unfolding entries_in children_of
  children_are h =
      let n = length bytes / 32 in
      let whole : length bytes ≤ 32 * n = omega arith in
      λ i. record { number = n; at = λ p. box_at_lem n p whole i; places = marks n 0 n (omega arith) i }
