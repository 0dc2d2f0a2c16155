-- What listing octants works in, and how one buffer is cut for it. Definitions only.
use Rattle.std.specs.Prelude.{ℕ, ◌*◌, Bool, ◌||◌, List, [], ◌∷◌, ltb, get_or}
use Rattle.base.specs.Cuts.{lesser, cut}
use Rattle.octants.specs.Octants.{key_words, row_words}
use Rattle.octants.specs.declared.entry.Lengths.{Lengths}

-- the least lengths of the parts for n vertices: keys, rows, order, temp, marks
abbrev pub octants_parts : ℕ → List ℕ
octants_parts n = key_words n ∷ row_words n ∷ n ∷ n ∷ n ∷ []

-- the lengths of the parts that are lent
abbrev pub octants_lent : Lengths → List ℕ
octants_lent l = l.keys ∷ l.rows ∷ l.order ∷ l.temp ∷ l.marks ∷ []

-- what is too short beside them: the vertices, or the lists
abbrev pub lists_short : ℕ → Lengths → Bool
lists_short n l = ltb l.vertices (3 * n) || ltb l.lists (8 * n)

-- The lengths that `bounds_calculate_octants_in` of the C header hands on, which cuts one buffer of w words; `calculate_octants_in` in Rust does the same.
-- Above the limit of vertices it is cut for the limit. Those of the vertices and of the lists are l's.
abbrev pub cut_octants : ℕ → ℕ → Lengths → Lengths
cut_octants n w l =
    let parts = cut (octants_parts (lesser n 32768)) w in
    record {
      vertices = l.vertices;
      lists = l.lists;
      keys = get_or parts 0 0;
      rows = get_or parts 1 0;
      order = get_or parts 2 0;
      temp = get_or parts 3 0;
      marks = get_or parts 4 0;
    }
