-- How one buffer is cut into the ten parts that Prepare works in. Definitions only.
use Rattle.std.specs.Prelude.{ℕ, ◌+◌, ◌*◌, Bool, ◌||◌, List, [], ◌∷◌, get_or}
use Rattle.base.specs.Cuts.{lesser, cut}
use Rattle.meshes.specs.declared.Counts.{Counts}
use Rattle.meshes.specs.declared.Lengths.{Lengths}
use Rattle.meshes.specs.Sizes.{inputs_short, lists_short, hull_short, tree_short}

-- the least lengths of the parts for p polygons and v vertices: entries, places, temp, stack, rows, points, sorted, centres, olds, news
abbrev pub prepare_parts : ℕ → ℕ → List ℕ
prepare_parts p v =
    (7 * p + 4 * v) ∷ (3 * p + 3 * v) ∷ (3 * p + v) ∷ (3 * p + v) ∷ (16 * p + 8 + v) ∷ 3 * v ∷ p ∷ 4 * p ∷ 9 * p ∷ 9 * p ∷ []

-- the lengths of the parts that are lent: of `sorted` in bytes
abbrev pub prepare_lent : Lengths → List ℕ
prepare_lent l =
    l.entries ∷ l.places ∷ l.temp ∷ l.stack ∷ l.rows ∷ l.points ∷ l.sorted ∷ l.centres ∷ l.olds ∷ l.news ∷ []

-- what is too short beside them: an input or an output
abbrev pub outside_short : Counts → Lengths → Bool
outside_short c l = inputs_short c l || lists_short c l || hull_short c l || tree_short c l

-- The lengths that `bounds_prepare` of the C header hands on, which cuts one buffer of w words, of the part `sorted` the bytes; `prepare` in Rust does the
-- same. Above a limit it is cut for the limit. Those of inputs and outputs are l's.
abbrev pub cut_prepare : Counts → ℕ → Lengths → Lengths
cut_prepare c w l =
    let parts = cut (prepare_parts (lesser c.polygons 32767) (lesser c.vertices 32768)) w in
    record {
      polygons = l.polygons;
      numbers = l.numbers;
      mats = l.mats;
      vertices = l.vertices;
      list = l.list;
      indices = l.indices;
      polygons_out = l.polygons_out;
      stored = l.stored;
      floats = l.floats;
      shrunk = l.shrunk;
      shrunk_floats = l.shrunk_floats;
      octants = l.octants;
      node_bytes = l.node_bytes;
      tree_bytes = l.tree_bytes;
      order = l.order;
      entries = get_or parts 0 0;
      places = get_or parts 1 0;
      temp = get_or parts 2 0;
      stack = get_or parts 3 0;
      rows = get_or parts 4 0;
      points = get_or parts 5 0;
      sorted = 4 * get_or parts 6 0;
      centres = get_or parts 7 0;
      olds = get_or parts 8 0;
      news = get_or parts 9 0;
    }
