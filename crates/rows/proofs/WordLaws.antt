-- Lists of words: a box behind a cut.
use Prim.Native.Nat.{ℕ, ◌+◌}
use native.Mathlib.Nat.{add_assoc}
use mathlib.Core.Path.{◌≡◌, sym, ap, ◌∙◌}
use mathlib.Core.List.{List}
use lib.ListN.{get_or, drop}
use lib.Seq.{get_or-drop}
use Rattle.entries.specs.Boxes.{point_at, box_from}

word_drop : (n : ℕ) (ws : List ℕ) (at k : ℕ) → get_or (drop n ws) (at + k) 0 ≡ get_or ws (n + at + k) 0
word_drop n ws at k = get_or-drop n ws (at + k) 0 ∙ ap (λ (m : ℕ). get_or ws m 0) (sym (add_assoc n at k))

point_drop : (n : ℕ) (ws : List ℕ) (at : ℕ) → point_at (drop n ws) at ≡ point_at ws (n + at)
point_drop n ws at = λ i. record { x = get_or-drop n ws at 0 i; y = word_drop n ws at 1 i; z = word_drop n ws at 2 i }

-- The box at `at` behind n words is the box at n + at.
pub box_drop : (n : ℕ) (ws : List ℕ) (at : ℕ) → box_from (drop n ws) at ≡ box_from ws (n + at)
box_drop n ws at =
    let max : point_at (drop n ws) (at + 3) ≡ point_at ws (n + at + 3) = point_drop n ws (at + 3) ∙ ap (point_at ws) (sym (add_assoc n at 3)) in
    λ i. record { min = point_drop n ws at i; max = max i }
