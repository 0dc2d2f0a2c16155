-- What shrinking works in, and how one buffer is cut for it. Definitions only.
use Rattle.std.specs.Prelude.{ℕ, ◌+◌, ◌*◌, Bool, ◌||◌, List, [], ◌∷◌, ltb, get_or}
use Rattle.base.specs.Cuts.{lesser, cut}
use Rattle.verts_shrunk.specs.declared.entry.Lengths.{Lengths}

-- the least lengths of the parts for n polygons and v vertices: corners, tri, firsts, spare, links, normals, olds, news
abbrev pub shrink_parts : ℕ → ℕ → List ℕ
shrink_parts n v = 3 * n ∷ 3 * n ∷ (3 * n + v) ∷ 3 * n ∷ 3 * n ∷ 3 * n ∷ 9 * n ∷ 9 * n ∷ []

-- the lengths of the parts that are lent
abbrev pub shrink_lent : Lengths → List ℕ
shrink_lent l = l.corners ∷ l.tri ∷ l.firsts ∷ l.spare ∷ l.links ∷ l.normals ∷ l.olds ∷ l.news ∷ []

-- what is too short beside them: the records, the vertices, or the points
abbrev pub points_short : ℕ → ℕ → Lengths → Bool
points_short n v l = ltb l.polygons (16 * n) || ltb l.vertices (3 * v) || ltb l.points (3 * v)

-- The lengths that `bounds_calculate_verts_shrunk_in` of the C header hands on, which cuts one buffer of w words; `calculate_verts_shrunk_in` in Rust does
-- the same. Above a limit it is cut for the limit. Those of the records, of the vertices and of the points are l's.
abbrev pub cut_shrink : ℕ → ℕ → ℕ → Lengths → Lengths
cut_shrink n v w l =
    let parts = cut (shrink_parts (lesser n 32767) (lesser v 32768)) w in
    record {
      polygons = l.polygons;
      vertices = l.vertices;
      points = l.points;
      corners = get_or parts 0 0;
      tri = get_or parts 1 0;
      firsts = get_or parts 2 0;
      spare = get_or parts 3 0;
      links = get_or parts 4 0;
      normals = get_or parts 5 0;
      olds = get_or parts 6 0;
      news = get_or parts 7 0;
    }
