-- What a build works in, and how one buffer is cut for it. Definitions only.
use Rattle.std.specs.Prelude.{ℕ, ◌+◌, ◌*◌, Bool, ◌||◌, List, [], ◌∷◌, nat_lt, slice_index}
use Rattle.base.specs.Cuts.{lesser, cut}
use Rattle.bvh.specs.declared.slices.Lengths.{Lengths}

-- the least lengths of the parts for n entries: entries, places, temp, stack, rows, centres
abbrev pub build_parts : ℕ → List ℕ
build_parts n = 7 * n ∷ n ∷ n ∷ n ∷ 8 * (2 * n + 1) ∷ 4 * n ∷ []

-- the lengths of the parts that are lent
abbrev pub build_lent : Lengths → List ℕ
build_lent l = l.entries ∷ l.places ∷ l.temp ∷ l.stack ∷ l.rows ∷ l.centres ∷ []

-- what is too short beside them: an output
abbrev pub output_short : ℕ → Lengths → Bool
output_short n l = nat_lt l.nodes (16 * (2 * n + 1)) || nat_lt l.trees (16 * (2 * n + 1)) || nat_lt l.order n

-- The lengths that `bounds_build_bvh_in` and `bounds_composite_tree_in` of the C header hand on, which cut one buffer of w words; `build_bvh` and
-- `composite_tree` in Rust do the same. Above the limit of entries it is cut for the limit. Those of the outputs are l's.
abbrev pub cut_build : ℕ → ℕ → Lengths → Lengths
cut_build n w l =
    let parts = cut (build_parts (lesser n 32767)) w in
    record {
      nodes = l.nodes;
      trees = l.trees;
      order = l.order;
      entries = slice_index parts 0;
      places = slice_index parts 1;
      temp = slice_index parts 2;
      stack = slice_index parts 3;
      rows = slice_index parts 4;
      centres = slice_index parts 5;
    }
