-- What `update_edge_indices` answers, and what the records then hold. Definitions only.
use Rattle.std.specs.Prelude.{ℕ, ◌*◌, Bool, cond, ◌||◌, List, ◌≡◌, ltb, ⊤, Result, Ok, Err}
use Rattle.corners.specs.Corners.{kinds_known, corners_of, links_put}
use Rattle.edges.specs.declared.entry.Lengths.{Lengths}
use Rattle.polygon.specs.declared.PolygonsRefusal.{PolygonsRefusal}
use Rattle.polygon.specs.declared.PolygonsRefusal.TheVariants.{TooManyPolygons, BufferTooShort, UnknownKind}
use Rattle.sides.specs.Links.{links_of}

-- 01, edges, 2: 16 bytes a polygon; and three words a polygon for each part of the work buffer.
abbrev pub short : ℕ → Lengths → Bool
short n l =
    ltb l.polygons (16 * n) || ltb l.corners (3 * n) || ltb l.keys (3 * n) || ltb l.sides (3 * n)
    || ltb l.spare (3 * n) || ltb l.links (3 * n)

-- Rule E3 (01, edges): the checks in the order written, and then that each kind is known.
unfoldable pub answer_of : ℕ → Lengths → List ℕ → Result ⊤ PolygonsRefusal
answer_of n l bytes =
    cond (ltb 32767 n) (Err TooManyPolygons)
    (cond (short n l) (Err BufferTooShort)
    (cond (kinds_known n bytes) (Ok tt) (Err UnknownKind)))

-- Rule E2: the records with their links. Those that they came with do not matter (corners LinkLaws, `links_forget`).
unfoldable pub linked : ℕ → List ℕ → List ℕ
linked n bytes = links_put n (links_of (corners_of n bytes)) bytes

-- what the records are at the end: on a refusal what they were
abbrev pub kept : Result ⊤ PolygonsRefusal → List ℕ → List ℕ → List ℕ
kept (Ok u) after before = after
kept (Err why) after before = before

-- The answer, and every byte of the records.
pub record Answered (n : ℕ) (l : Lengths) (before after : List ℕ) (r : Result ⊤ PolygonsRefusal) : Type 0 where
  pub answer : r ≡ answer_of n l before
  pub bytes : after ≡ kept r (linked n before) before
