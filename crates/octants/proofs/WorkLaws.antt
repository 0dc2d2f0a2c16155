-- What listing octants works in: ten words a vertex, within what 01 allows; and one buffer that is cut serves exactly where it has them. Assumes nothing.
use Prim.Native.Nat.{ℕ, ◌+◌, ◌*◌, ◌≤◌}
use native.Mathlib.Omega.{arith}
use mathlib.Core.Bool.{Bool, ◌||◌}
use mathlib.Core.Path.{◌≡◌, ap, ◌∙◌}
use lib.Dec.{ltb}
use Rattle.base.specs.Cuts.{total, cut, any_short}
use Rattle.base.proofs.CutLaws as C
use Rattle.octants.specs.declared.entry.Lengths.{Lengths}
use Rattle.octants.specs.Octants.{short, work_words}
use Rattle.octants.specs.Work.{octants_parts, octants_lent, lists_short, cut_octants}

pub work_total : (n : ℕ) → work_words n ≡ 10 * n
work_total n = omega arith

-- 01: at most 64 words a vertex, and 64 more
pub work_bound : (n : ℕ) → work_words n ≤ 64 * (n + 1)
work_bound n = omega arith

-- The work is all parts together,
pub work_parts : (n : ℕ) → total (octants_parts n) ≡ work_words n
work_parts n = omega arith

-- and these parts are what the check asks for.
pub asks_parts : (n : ℕ) (l : Lengths) → short n l ≡ lists_short n l || any_short (octants_parts n) (octants_lent l)
asks_parts n l = C.in_a_row (lists_short n l) (octants_parts n) (octants_lent l)

-- A buffer of w words that is cut is too short exactly where it has fewer than `bounds_octants_work_len` tells.
pub cut_serves : (n w : ℕ) (l : Lengths) → n ≤ 32768 → short n (cut_octants n w l) ≡ lists_short n l || ltb w (work_words n)
cut_serves n w l within =
    asks_parts n (cut_octants n w l)
    ∙ ap (λ (m : ℕ). lists_short n l || any_short (octants_parts n) (cut (octants_parts m) w)) (C.lesser_within n 32768 within)
    ∙ ap (λ (t : Bool). lists_short n l || t) (C.cut_serves (octants_parts n) w ∙ ap (ltb w) (work_parts n))
