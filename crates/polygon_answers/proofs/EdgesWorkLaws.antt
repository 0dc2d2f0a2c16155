-- What linking polygons works in: 15 words a polygon, within what 01 allows; and one buffer that is cut serves exactly where it has them. Assumes nothing.
use Prim.Native.Nat.{ℕ, ◌+◌, ◌*◌, ◌≤◌}
use native.Mathlib.Omega.{arith}
use mathlib.Core.Bool.{Bool, ◌||◌}
use mathlib.Core.Path.{◌≡◌, ap, ◌∙◌}
use lib.Dec.{ltb}
use Rattle.base.specs.Cuts.{total, cut, any_short}
use Rattle.base.proofs.CutLaws as C
use Rattle.edges.specs.declared.entry.Lengths.{Lengths}
use Rattle.edges.specs.Edges.{short}
use Rattle.polygon_answers.specs.EdgesWork.{edges_parts, edges_lent, cut_edges}
use Rattle.polygon_answers.specs.Geometry.{edges_work_len}

-- 01: at most 64 words a polygon, and 64 more
pub work_bound : (n : ℕ) → edges_work_len n ≤ 64 * (n + 1)
work_bound n = omega arith

-- The work is all parts together,
pub work_parts : (n : ℕ) → total (edges_parts n) ≡ edges_work_len n
work_parts n = omega arith

-- and these parts are what the check asks for, beside the records.
pub asks_parts : (n : ℕ) (l : Lengths) → short n l ≡ ltb l.polygons (16 * n) || any_short (edges_parts n) (edges_lent l)
asks_parts n l = C.in_a_row (ltb l.polygons (16 * n)) (edges_parts n) (edges_lent l)

-- A buffer of w words that is cut is too short exactly where it has fewer than `bounds_edges_work_len` tells.
pub cut_serves : (n w : ℕ) (l : Lengths) → n ≤ 32767 → short n (cut_edges n w l) ≡ ltb l.polygons (16 * n) || ltb w (edges_work_len n)
cut_serves n w l within =
    let other : Bool = ltb l.polygons (16 * n) in
    asks_parts n (cut_edges n w l)
    ∙ ap (λ (m : ℕ). other || any_short (edges_parts n) (cut (edges_parts m) w)) (C.lesser_within n 32767 within)
    ∙ ap (λ (t : Bool). other || t) (C.cut_serves (edges_parts n) w ∙ ap (ltb w) (work_parts n))
