-- The boxes of polygon records as entries of a build. Definitions only.
use Rattle.std.specs.Prelude.{ℕ, ◌*◌, Bool, cond, ◌||◌, List, [], ◌∷◌, ◌≡◌, ltb, length, ⊤, Result, Ok, Err}
use Rattle.base.specs.Lists.{over}
use Rattle.corners.specs.Corners.{in_turn, kinds_known}
use Rattle.polygon.specs.Polygons.{polygon_at}
use Rattle.polygon.specs.declared.PolygonsRefusal.{PolygonsRefusal}
use Rattle.polygon.specs.declared.PolygonsRefusal.TheVariants.{TooManyPolygons, BufferTooShort, UnknownKind}
use Rattle.polygon_boxes.specs.Boxes.{bbox_of}
use Rattle.polygon_boxes.specs.declared.PolygonBox.{PolygonBox}

-- Rule G11 (01, Build: an entry is a mark and a box; bounds.rs, BvhItem): the mark of a present entry, and the box.
unfoldable pub item_words : PolygonBox → List ℕ
item_words b = 1 ∷ b.min.x ∷ b.min.y ∷ b.min.z ∷ b.max.x ∷ b.max.y ∷ b.max.z ∷ []

-- Rule G11: the entry of polygon p, whose box is rule G9's.
abbrev pub item_at : List ℕ → List ℕ → ℕ → List ℕ
item_at bytes ws p = item_words (bbox_of (polygon_at bytes (16 * p)) ws)

-- Rule G11: the entries of the first n polygons.
abbrev pub items_of : ℕ → List ℕ → List ℕ → List ℕ
items_of n bytes ws = in_turn n (item_at bytes ws)

-- 16 bytes and seven words a polygon
abbrev pub short : ℕ → ℕ → ℕ → Bool
short n polygons items = ltb polygons (16 * n) || ltb items (7 * n)

-- Rule G11: the checks in this order, as those of the links.
unfoldable pub answer_of : ℕ → List ℕ → List ℕ → Result ⊤ PolygonsRefusal
answer_of n bytes items =
    cond (ltb 32767 n) (Err TooManyPolygons)
    (cond (short n (length bytes) (length items)) (Err BufferTooShort)
    (cond (kinds_known n bytes) (Ok tt) (Err UnknownKind)))

-- what the entries are at the end: on a refusal what they were
abbrev pub kept : Result ⊤ PolygonsRefusal → List ℕ → List ℕ → List ℕ
kept (Ok u) written before = over written before
kept (Err r) written before = before

-- The answer, and every word.
pub record Answered (n : ℕ) (bytes ws before after : List ℕ) (r : Result ⊤ PolygonsRefusal) : Type 0 where
  pub answer : r ≡ answer_of n bytes before
  pub words : after ≡ kept r (items_of n bytes ws) before
