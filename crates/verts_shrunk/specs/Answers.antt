-- What `calculate_verts_shrunk` answers, and what the points then hold. Definitions only.
use Rattle.std.specs.Prelude.{ℕ, ◌+◌, ◌*◌, Bool, cond, not, ◌||◌, List, ◌≡◌, eqb, ltb, Float, Option, Some, None, Result, Ok, Err}
use Rattle.base.specs.Lists.{over}
use Rattle.corners.specs.Corners.{kinds_known}
use Rattle.shrink.specs.Shrinking.{shrink_margin}
use Rattle.shrinking.specs.Whole.{mesh_in, bound_of, infinite_start, shrunk_of}
use Rattle.shrinking.specs.declared.whole.Geometry.{Geometry}
use Rattle.verts_shrunk.specs.declared.entry.Lengths.{Lengths}
use Rattle.verts_shrunk.specs.declared.entry.ShrinkRefusal.{ShrinkRefusal}
use Rattle.verts_shrunk.specs.declared.entry.ShrinkRefusal.TheVariants.{TooManyPolygons, TooManyVertices, BufferTooShort, UnknownKind, InfiniteMargin}
use Rattle.verts_shrunk.specs.declared.entry.Shrunk.{Shrunk}
use Rattle.verts_shrunk.specs.declared.entry.Shrunk.TheVariants.{ByMargin, ByNormals, NoVertices}

-- ---- the sizes

-- the words and floats to work in, all parts together: corners, tri, spare, links, normals, 3n each, olds, news, 9n each, and firsts
abbrev pub work_words : ℕ → ℕ → ℕ
work_words n v = 5 * (3 * n) + 2 * (9 * n) + (3 * n + v)

-- Rule S10 (01, 2): 16 bytes a polygon, three words a vertex, given and shrunk; and the first sides
abbrev pub short_of : ℕ → ℕ → Lengths → Bool
short_of n v l = ltb l.polygons (16 * n) || ltb l.vertices (3 * v) || ltb l.points (3 * v) || ltb l.firsts (3 * n + v)

-- Rule S10: and the other parts to work in
unfoldable pub short : ℕ → ℕ → Lengths → Bool
short n v l =
    short_of n v l || ltb l.corners (3 * n) || ltb l.tri (3 * n) || ltb l.spare (3 * n) || ltb l.links (3 * n)
    || ltb l.normals (3 * n) || ltb l.olds (9 * n) || ltb l.news (9 * n)

-- ---- the answer

abbrev pub shrunk_by : Option Float → Shrunk
shrunk_by (Some m) = ByMargin m
shrunk_by None = ByNormals

-- Rule S10: the checks in the order of Prepare (01): 1, 2, 6, and 7 where there are vertices.
unfoldable pub answer_of : Geometry → ℕ → List ℕ → ℕ → List ℕ → Lengths → Result Shrunk ShrinkRefusal
unfolding short infinite_start shrink_margin
answer_of g n polygons v vertices l =
    cond (ltb 32767 n) (Err TooManyPolygons)
    (cond (ltb 32768 v) (Err TooManyVertices)
    (cond (short n v l) (Err BufferTooShort)
    (cond (not (kinds_known n polygons)) (Err UnknownKind)
    (cond (eqb v 0) (Ok NoVertices)
    (cond (infinite_start g) (Err InfiniteMargin)
    (Ok (shrunk_by (shrink_margin (bound_of g) (mesh_in n polygons v vertices)))))))))

-- what the points hold at the end: on a refusal, and without vertices, what they held
abbrev pub kept : Result Shrunk ShrinkRefusal → List ℕ → List ℕ → List ℕ
kept (Ok (ByMargin m)) after before = after
kept (Ok ByNormals) after before = after
kept (Ok NoVertices) after before = before
kept (Err r) after before = before

-- The answer, and every word of the points: those behind the vertices stay.
pub record Answered (g : Geometry) (n : ℕ) (polygons : List ℕ) (v : ℕ) (vertices : List ℕ) (l : Lengths) (before after : List ℕ) (r : Result Shrunk ShrinkRefusal) : Type 0 where
  pub answer : r ≡ answer_of g n polygons v vertices l
  pub points_are : after ≡ kept r (over (shrunk_of g (mesh_in n polygons v vertices)) before) before

-- 01's number for each answer, 0 where it is not refused
abbrev pub refusal_number : ShrinkRefusal → ℕ
refusal_number TooManyPolygons = 1
refusal_number TooManyVertices = 1
refusal_number BufferTooShort = 2
refusal_number UnknownKind = 6
refusal_number InfiniteMargin = 7

abbrev pub number_of : Result Shrunk ShrinkRefusal → ℕ
number_of (Ok s) = 0
number_of (Err r) = refusal_number r
