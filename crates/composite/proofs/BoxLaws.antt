-- The children's boxes: 32 bytes each, stored one after the other they are one run of stores; and what the checks come to. By induction on the children.
use Rattle.std.specs.Prelude.{◌≡◌, ℕ, zero, suc, ◌+◌, ◌*◌, ◌<◌, ◌≤◌, Bool, true, false, cond, List, ◌++◌, length, replicate, Ok, Err}
use native.Mathlib.Nat.{add-zero}
use native.Mathlib.Numerals.{add-one}
use native.Mathlib.Omega.{arith}
use mathlib.Core.Bool.{or-true}
use mathlib.Core.List.{append_assoc, append-nil}
use mathlib.Core.Path.{refl, sym, ap, ◌∙◌}
use lib.ListN.{length-append}
use lib.Seq.{sets, length-sets}
use borrow.Author.Tests.{lt-ltb, le-ltb, eq-eqb, ne_eqb}
use Rattle.base.specs.Lists.{over}
use Rattle.base.specs.LittleEndian.{little_endian}
use Rattle.base.proofs.LittleEndian.{Bytes, joined, number_bytes, zero_bytes, zeros_stored}
use Rattle.base.proofs.StoreLaws.{store_next, over_next}
use Rattle.entries.specs.declared.boxes.BoxWords.{BoxWords}
use Rattle.math.specs.declared.words3.Words3.{Words3}
use Rattle.composite.specs.declared.boxes.ChildBoxesRefusal.TheVariants.{TooManyChildren, BufferTooShort}
use Rattle.composite.specs.Boxes.{ChildBoxes, row_bytes, child_bytes, children_bytes, boxes_of, number_of, kept, Boxed, BoxedBy}
use Rattle.composite.specs.Children.{is_present, mark_of, box_of, margin_of}

-- ---- one child

row_bytes_lem : (p : Words3) (w : ℕ) → Bytes 16 (row_bytes p w)
unfolding row_bytes
row_bytes_lem p w = joined (joined (joined (number_bytes 4 p.x) (number_bytes 4 p.y)) (number_bytes 4 p.z)) (number_bytes 4 w)

module _ (ws : List ℕ) (k : ℕ) where
  absent_is : mark_of ws k ≡ 0 → child_bytes ws k ≡ replicate 32 0
  unfolding child_bytes
  absent_is e = rw (eq-eqb (mark_of ws k) 0 e)

  present_is : (mark_of ws k ≡ 0 → ⊥) → child_bytes ws k ≡ row_bytes (box_of ws k).min 1 ++ row_bytes (box_of ws k).max (margin_of ws k)
  unfolding child_bytes
  present_is e = rw (ne_eqb (mark_of ws k) 0 e)

  pub absent_stored : (out : List ℕ) (at : ℕ) {a : List ℕ} → mark_of ws k ≡ 0 → a ≡ sets out at (little_endian 32 0) → a ≡ sets out at (child_bytes ws k)
  absent_stored out at e s = zeros_stored out at 32 s ∙ ap (sets out at) (sym (absent_is e))

  pub present_stored : (out : List ℕ) (at : ℕ) (b : BoxWords) {a c : List ℕ} → (mark_of ws k ≡ 0 → ⊥) → b ≡ box_of ws k
      → a ≡ sets out at (row_bytes b.min 1) → c ≡ sets a (at + 16) (row_bytes b.max (margin_of ws k)) → c ≡ sets out at (child_bytes ws k)
  present_stored out at b e same first second =
      store_next out (row_bytes b.min 1) (row_bytes b.max (margin_of ws k)) at 16 (row_bytes_lem b.min 1).size first second
      ∙ ap (λ (x : BoxWords). sets out at (row_bytes x.min 1 ++ row_bytes x.max (margin_of ws k))) same
      ∙ ap (sets out at) (sym (present_is e))

  length_child : length (child_bytes ws k) ≡ 32
  unfolding child_bytes
  length_child = by (is_present ws k)
    where
      by : (q : Bool) → length (cond q (row_bytes (box_of ws k).min 1 ++ row_bytes (box_of ws k).max (margin_of ws k)) (replicate 32 0)) ≡ 32
      by true = (joined (row_bytes_lem (box_of ws k).min 1) (row_bytes_lem (box_of ws k).max (margin_of ws k))).size
      by false = (zero_bytes 32).size

-- ---- child after child

module _ (ws : List ℕ) where
  length_children : (at n : ℕ) → length (children_bytes ws at n) ≡ 32 * n
  length_children at zero = refl
  length_children at (suc n) =
      omega (arith, length-append (child_bytes ws at) (children_bytes ws (at + 1) n), length_child ws at, length_children (at + 1) n)

  children_more : (at n : ℕ) → children_bytes ws at (n + 1) ≡ children_bytes ws at n ++ child_bytes ws (at + n)
  children_more at zero = append-nil (child_bytes ws at) ∙ ap (child_bytes ws) (sym (add-zero at))
  children_more at (suc n) =
      let e : at + 1 + n ≡ at + suc n = omega arith in
      ap (children_bytes ws at) (add-one (suc n))
      ∙ ap (λ (l : List ℕ). child_bytes ws at ++ l) (ap (children_bytes ws (at + 1)) (sym (add-one n)) ∙ children_more (at + 1) n)
      ∙ sym (append_assoc (child_bytes ws at) (children_bytes ws (at + 1) n) (child_bytes ws (at + 1 + n)))
      ∙ ap (λ (j : ℕ). children_bytes ws at (suc n) ++ child_bytes ws j) e

-- The loop of `put_children`: the boxes before k stand at the start.
pub record Putting (ws before now : List ℕ) (k : ℕ) : Type 0 where
  pub len : length now ≡ length before
  pub put : now ≡ over (children_bytes ws 0 k) before

pub start : (ws out : List ℕ) → Putting ws out out 0
start ws out = record { len = refl; put = refl }

pub one_more : (ws before now after : List ℕ) (k : ℕ) → Putting ws before now k → 32 * k + 32 ≤ length before
    → after ≡ sets now (32 * k) (child_bytes ws k) → Putting ws before after (k + 1)
one_more ws before now after k g room a =
    let none : 0 + k ≡ k = omega arith in
    record {
      len = ap length a ∙ length-sets now (32 * k) (child_bytes ws k) ∙ g.len;
      put =
          a
          ∙ ap (λ (l : List ℕ). sets l (32 * k) (child_bytes ws k)) g.put
          ∙ over_next (children_bytes ws 0 k) (child_bytes ws k) before (32 * k) (length_children ws 0 k) (omega (arith, length_child ws k))
          ∙ ap (λ (l : List ℕ). over l before) (sym (children_more ws 0 k ∙ ap (λ (j : ℕ). children_bytes ws 0 k ++ child_bytes ws j) none));
    }

-- ---- the answer

module _ (n : ℕ) (ws before : List ℕ) where
  many_is : 32767 < n → Err TooManyChildren ≡ boxes_of n (length ws) (length before)
  unfolding boxes_of
  many_is h = rw (lt-ltb 32767 n h)

  pub too_many : 32767 < n → Boxed n ws before before (Err TooManyChildren)
  too_many h = record { answer = many_is h; bytes = refl }

  given_is : n ≤ 32767 → length ws < 24 * n → Err BufferTooShort ≡ boxes_of n (length ws) (length before)
  unfolding boxes_of
  given_is few h = rw (le-ltb 32767 n few, lt-ltb (length ws) (24 * n) h)

  pub given_short : n ≤ 32767 → length ws < 24 * n → Boxed n ws before before (Err BufferTooShort)
  given_short few h = record { answer = given_is few h; bytes = refl }

  room_is : n ≤ 32767 → length before < 32 * n → Err BufferTooShort ≡ boxes_of n (length ws) (length before)
  unfolding boxes_of
  room_is few h = rw (le-ltb 32767 n few, lt-ltb (length before) (32 * n) h, or-true)

  pub room_short : n ≤ 32767 → length before < 32 * n → Boxed n ws before before (Err BufferTooShort)
  room_short few h = record { answer = room_is few h; bytes = refl }

  written_is : n ≤ 32767 → 24 * n ≤ length ws → 32 * n ≤ length before → Ok tt ≡ boxes_of n (length ws) (length before)
  unfolding boxes_of
  written_is few g h = rw (le-ltb 32767 n few, le-ltb (length ws) (24 * n) g, le-ltb (length before) (32 * n) h)

  pub written : (after : List ℕ) → n ≤ 32767 → 24 * n ≤ length ws → 32 * n ≤ length before → after ≡ over (children_bytes ws 0 n) before
      → Boxed n ws before after (Ok tt)
  written after few g h e = record { answer = written_is few g h; bytes = e }

-- An answer by its number promises what the answer does.
pub numbered : (n : ℕ) (ws before after : List ℕ) (x : ChildBoxes) (r : ℕ) → Boxed n ws before after x → r ≡ number_of x → BoxedBy n ws before after r
numbered n ws before after x r a e =
    record {
      number = e ∙ ap number_of a.answer;
      bytes = a.bytes ∙ ap (λ (y : ChildBoxes). kept y (children_bytes ws 0 n) before) a.answer;
    }
