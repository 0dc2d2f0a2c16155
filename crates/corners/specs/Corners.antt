-- The corners of triangles, and their links (01, Polygons: `update_edge_indices`). Definitions only.
-- Corners and links are lists of three numbers a polygon: number 3p + k is corner or side k of polygon p.
use Rattle.std.specs.Prelude.{ℕ, zero, suc, ◌+◌, ◌-◌, ◌*◌, ◌%◌, ◌≤◌, ◌<◌, Bool, true, not, ◌&&◌, cond, List, [], ◌∷◌, ◌++◌, ◌≡◌, eqb, leb, length, get_or, take, drop}
use Rattle.base.specs.LittleEndian.{little_endian, le_at}
use Rattle.base.specs.Lists.{over}
use Rattle.polygon.specs.Polygons.{kind_at}

-- No corner, where a polygon is no triangle; and no link, which is −1 as an i16.
abbrev pub none : ℕ
none = 65535

-- where the corner stands that side s leads to: the next of its polygon
unfoldable pub next_of : ℕ → ℕ
next_of s = cond (eqb (s % 3) 2) (s - 2) (s + 1)

-- the side is there: its polygon is a triangle
abbrev pub there : List ℕ → ℕ → Bool
there cs s = not (eqb (get_or cs s 0) none)

-- The corners of at most 32,767 polygons: a triangle's are below 32,768, another's are `none`.
pub record Corners (cs : List ℕ) : Type 0 where
  pub few : length cs ≤ 98301
  pub threes : length cs % 3 ≡ 0
  pub fit : (s : ℕ) → get_or cs s 0 ≤ 65535
  pub small : (s : ℕ) → s < length cs → there cs s ≡ true → (get_or cs s 0 < 32768) × (get_or cs (next_of s) 0 < 32768)

-- ---- lists of records

-- the lists of 0 to n − 1, one after the other
abbrev pub in_turn : ℕ → (ℕ → List ℕ) → List ℕ
in_turn zero f = []
in_turn (suc n) f = in_turn n f ++ f n

-- Rule G5 (01, Polygon read: 6 kind 5, 6 or 7): the kinds of the first n records are 0 to 4.
abbrev pub kinds_known : ℕ → List ℕ → Bool
kinds_known zero bytes = true
kinds_known (suc n) bytes = kinds_known n bytes && leb (kind_at bytes (16 * n)) 4

-- Polygon p is a triangle.
abbrev pub is_triangle : List ℕ → ℕ → Bool
is_triangle bytes p = eqb (kind_at bytes (16 * p)) 0

-- Rule G6 (bounds.rs, triangle: the vertices by 7FFF): a triangle's corner in a slot.
abbrev pub corner_of : List ℕ → ℕ → ℕ → ℕ
corner_of bytes p slot = le_at 2 bytes (16 * p + 4 + 2 * slot) % 32768

-- Rule G6: a triangle's three corners, and none of another kind.
unfoldable pub corners_at : List ℕ → ℕ → List ℕ
corners_at bytes p =
    cond (is_triangle bytes p) (corner_of bytes p 0 ∷ corner_of bytes p 1 ∷ corner_of bytes p 2 ∷ []) (none ∷ none ∷ none ∷ [])

-- Rule G6: the corners of the first n polygons.
abbrev pub corners_of : ℕ → List ℕ → List ℕ
corners_of n bytes = in_turn n (corners_at bytes)

-- the three links of polygon p as bytes
unfoldable pub link_bytes : List ℕ → ℕ → List ℕ
link_bytes links p = little_endian 2 (get_or links (3 * p) 0) ++ little_endian 2 (get_or links (3 * p + 1) 0) ++ little_endian 2 (get_or links (3 * p + 2) 0)

-- Rule G7 (bounds.rs, update_edge_indices: edges): the record of polygon p; a triangle's ends with its links.
unfoldable pub linked_record : List ℕ → List ℕ → ℕ → List ℕ
linked_record links bytes p =
    let record16 = take 16 (drop (16 * p) bytes) in
    cond (is_triangle bytes p) (take 10 record16 ++ link_bytes links p) record16

abbrev pub linked_records : ℕ → List ℕ → List ℕ → List ℕ
linked_records n links bytes = in_turn n (linked_record links bytes)

-- Rule G7: the bytes once the links of the first n polygons are stored; what is no link is as it was.
unfoldable pub links_put : ℕ → List ℕ → List ℕ → List ℕ
links_put n links bytes = over (linked_records n links bytes) bytes
