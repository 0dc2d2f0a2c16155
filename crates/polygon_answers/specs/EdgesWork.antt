-- What linking polygons works in, and how one buffer is cut for it. Definitions only.
use Rattle.std.specs.Prelude.{ℕ, ◌*◌, List, [], ◌∷◌, get_or}
use Rattle.base.specs.Cuts.{lesser, cut}
use Rattle.edges.specs.declared.entry.Lengths.{Lengths}

-- the least lengths of the parts for n polygons: corners, keys, sides, spare, links
abbrev pub edges_parts : ℕ → List ℕ
edges_parts n = 3 * n ∷ 3 * n ∷ 3 * n ∷ 3 * n ∷ 3 * n ∷ []

-- the lengths of the parts that are lent
abbrev pub edges_lent : Lengths → List ℕ
edges_lent l = l.corners ∷ l.keys ∷ l.sides ∷ l.spare ∷ l.links ∷ []

-- The lengths that `bounds_update_edge_indices_in` of the C header hands on, which cuts one buffer of w words; `update_edge_indices` in Rust does the same.
-- Above the limit of polygons it is cut for the limit. That of the records is l's.
abbrev pub cut_edges : ℕ → ℕ → Lengths → Lengths
cut_edges n w l =
    let parts = cut (edges_parts (lesser n 32767)) w in
    record {
      polygons = l.polygons;
      corners = get_or parts 0 0;
      keys = get_or parts 1 0;
      sides = get_or parts 2 0;
      spare = get_or parts 3 0;
      links = get_or parts 4 0;
    }
