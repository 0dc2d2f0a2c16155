-- One more entry, and what the function answers, case by case.
use Prim.Native.Nat.{ℕ, ◌+◌, ◌*◌, ◌%◌, ◌≤◌, ◌<◌}
use native.Mathlib.Omega.{arith}
use native.Mathlib.Numerals.{add-one, towards_suc}
use mathlib.Core.Path.{◌≡◌, refl, sym, ap, ◌∙◌}
use mathlib.Core.Bool.{true, false}
use mathlib.Core.List.{List, [], ◌∷◌}
use lib.Dec.{ltb}
use lib.ListN.{length, set}
use lib.Seq.{sets}
use borrow.Author.Tests.{lt-ltb, le-ltb, ltb-false}
use Rattle.std.proofs.Common.{Ok, Err}
use Rattle.base.specs.Lists.{over}
use Rattle.base.proofs.StoreLaws.{over_next}
use Rattle.base.proofs.Truth.{neither}
use Rattle.corners.specs.Corners.{kinds_known}
use Rattle.corners.proofs.CornerLaws.{length_in_turn}
use Rattle.polygon.specs.Polygons.{polygon_at}
use Rattle.polygon.specs.Polygons.{triangle_of}
use Rattle.polygon.specs.Halves.{halves_at}
use Rattle.polygon.proofs.KindLaws.{triangle_by_kind}
use Rattle.polygon.specs.declared.Polygon.{Polygon}
use Rattle.base.specs.LittleEndian.{le_at}
use Rattle.math.specs.declared.words3.Words3.{Words3}
use Rattle.float32.specs.Extremes.{vmin_word, vmax_word}
use Rattle.polygon_boxes.specs.Boxes.{vertex_words, three_box, bbox_of}
use Rattle.polygon_boxes.specs.declared.PolygonBox.{PolygonBox}
use Rattle.polygon.specs.declared.PolygonsRefusal.TheVariants.{TooManyPolygons, BufferTooShort, UnknownKind}
use Rattle.polygon_items.specs.Items.{item_words, item_at, items_of, short, answer_of, Answered}

pub seven_stores : (l : List ℕ) (at a b c d e f g : ℕ)
    → set (set (set (set (set (set (set l at a) (at + 1) b) (at + 2) c) (at + 3) d) (at + 4) e) (at + 5) f) (at + 6) g
    ≡ sets l at (a ∷ b ∷ c ∷ d ∷ e ∷ f ∷ g ∷ [])
seven_stores l at a b c d e f g = simp towards_suc

-- the words of a triangle's entry
pub three_words : (l : List ℕ) (at : ℕ) (a b c : Words3) {p q r s t u : ℕ} → p ≡ vmin_word (vmin_word a.x b.x) c.x
    → q ≡ vmin_word (vmin_word a.y b.y) c.y → r ≡ vmin_word (vmin_word a.z b.z) c.z → s ≡ vmax_word (vmax_word a.x b.x) c.x
    → t ≡ vmax_word (vmax_word a.y b.y) c.y → u ≡ vmax_word (vmax_word a.z b.z) c.z
    → sets l at (1 ∷ p ∷ q ∷ r ∷ s ∷ t ∷ u ∷ []) ≡ sets l at (item_words (three_box a b c))
unfolding item_words three_box
three_words l at a b c ep eq er es et eu = λ i. sets l at (1 ∷ ep i ∷ eq i ∷ er i ∷ es i ∷ et i ∷ eu i ∷ [])

length_item : (b : PolygonBox) → length (item_words b) ≡ 7
unfolding item_words
length_item b = refl

pub items_next : (bytes ws before : List ℕ) (i : ℕ) {now next : List ℕ} → 7 * i + 7 ≤ length before → now ≡ over (items_of i bytes ws) before
    → next ≡ sets now (7 * i) (item_at bytes ws i) → next ≡ over (items_of (i + 1) bytes ws) before
items_next bytes ws before i h e f =
    let many : length (items_of i bytes ws) ≡ 7 * i = length_in_turn 7 (item_at bytes ws) i (λ p k. length_item _) in
    f
    ∙ ap (λ (l : List ℕ). sets l (7 * i) (item_at bytes ws i)) e
    ∙ over_next (items_of i bytes ws) (item_at bytes ws i) before (7 * i) many (omega (arith, h, many, length_item (bbox_of (polygon_at bytes (16 * i)) ws)))
    ∙ ap (λ (k : ℕ). over (items_of k bytes ws) before) (sym (add-one i))

-- ---- a triangle's

module _ (bytes ws : List ℕ) (from : ℕ) (k : le_at 2 bytes from % 8 ≡ 0) where
  triangle_at : polygon_at bytes from ≡ triangle_of (halves_at bytes from)
  unfolding polygon_at halves_at
  triangle_at = triangle_by_kind (halves_at bytes from) k

  triangle_box : bbox_of (triangle_of (halves_at bytes from)) ws
      ≡ three_box (vertex_words ws (le_at 2 bytes (from + 4) % 32768)) (vertex_words ws (le_at 2 bytes (from + 6) % 32768))
      (vertex_words ws (le_at 2 bytes (from + 8) % 32768))
  unfolding halves_at triangle_of
  triangle_box = refl

  -- as the code has it
  pub three_at : (i j l : ℕ) (a b c : Words3) → i ≡ le_at 2 bytes (from + 4) → j ≡ le_at 2 bytes (from + 6) → l ≡ le_at 2 bytes (from + 8)
      → a ≡ vertex_words ws (i % 32768) → b ≡ vertex_words ws (j % 32768) → c ≡ vertex_words ws (l % 32768)
      → three_box a b c ≡ bbox_of (polygon_at bytes from) ws
  three_at i j l a b c ei ej el ea eb ec =
      rw (ea, eb, ec, ei, ej, el) (sym (ap (λ (p : Polygon). bbox_of p ws) triangle_at ∙ triangle_box))

-- ---- the answers

module _ (n : ℕ) (bytes ws before : List ℕ) where
  abbrev missing : mathlib.Core.Bool.Bool
  missing = short n (length bytes) (length before)

  pub room : missing ≡ false → (16 * n ≤ length bytes) × (7 * n ≤ length before)
  room e =
      let k = neither (ltb (length bytes) (16 * n)) (ltb (length before) (7 * n)) e in
      (ltb-false (length bytes) (16 * n) k.0, ltb-false (length before) (7 * n) k.1)

  many : 32767 < n → Err TooManyPolygons ≡ answer_of n bytes before
  unfolding answer_of
  many h = rw (lt-ltb 32767 n h)

  pub too_many : 32767 < n → Answered n bytes ws before before (Err TooManyPolygons)
  too_many h = record { answer = many h; words = refl }

  small : n ≤ 32767 → missing ≡ true → Err BufferTooShort ≡ answer_of n bytes before
  unfolding answer_of
  small h e = rw (le-ltb 32767 n h, e)

  pub too_small : n ≤ 32767 → missing ≡ true → Answered n bytes ws before before (Err BufferTooShort)
  too_small h e = record { answer = small h e; words = refl }

  other : n ≤ 32767 → missing ≡ false → kinds_known n bytes ≡ false → Err UnknownKind ≡ answer_of n bytes before
  unfolding answer_of
  other h e k = rw (le-ltb 32767 n h, e, k)

  pub unknown : n ≤ 32767 → missing ≡ false → kinds_known n bytes ≡ false → Answered n bytes ws before before (Err UnknownKind)
  unknown h e k = record { answer = other h e k; words = refl }

  done : n ≤ 32767 → missing ≡ false → kinds_known n bytes ≡ true → Ok tt ≡ answer_of n bytes before
  unfolding answer_of
  done h e k = rw (le-ltb 32767 n h, e, k)

  pub served : (after : List ℕ) → n ≤ 32767 → missing ≡ false → kinds_known n bytes ≡ true → after ≡ over (items_of n bytes ws) before
      → Answered n bytes ws before after (Ok tt)
  served after h e k q = record { answer = done h e k; words = q }
