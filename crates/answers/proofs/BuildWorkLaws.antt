-- What a build works in: 30 words an entry and 8, within what 01 allows; and one buffer that is cut serves exactly where it has them. Assumes nothing.
use Rattle.std.specs.Prelude.{◌≡◌, ℕ, ◌+◌, ◌*◌, ◌≤◌, Bool, ◌||◌, ltb}
use native.Mathlib.Omega.{arith}
use mathlib.Core.Path.{ap, ◌∙◌}
use Rattle.base.specs.Cuts.{total, cut, any_short}
use Rattle.base.proofs.CutLaws as C
use Rattle.bvh.specs.declared.slices.Lengths.{Lengths}
use Rattle.bvh.specs.Build.{short}
use Rattle.answers.specs.BuildWork.{build_parts, build_lent, output_short, cut_build}
use Rattle.answers.specs.Trees.{work_len}

-- 01, Build: at most 64 words an entry, and 64 more
pub work_bound : (n : ℕ) → work_len n ≤ 64 * (n + 1)
work_bound n = omega arith

-- The work is all parts together,
pub work_parts : (n : ℕ) → total (build_parts n) ≡ work_len n
work_parts n = omega arith

-- and these parts are what the check asks for.
pub asks_parts : (n : ℕ) (l : Lengths) → short n l ≡ output_short n l || any_short (build_parts n) (build_lent l)
asks_parts n l = C.in_a_row (output_short n l) (build_parts n) (build_lent l)

-- A buffer of w words that is cut is too short exactly where it has fewer than `bounds_work_len` tells.
pub cut_serves : (n w : ℕ) (l : Lengths) → n ≤ 32767 → short n (cut_build n w l) ≡ output_short n l || ltb w (work_len n)
cut_serves n w l within =
    asks_parts n (cut_build n w l)
    ∙ ap (λ (m : ℕ). output_short n l || any_short (build_parts n) (cut (build_parts m) w)) (C.lesser_within n 32767 within)
    ∙ ap (λ (t : Bool). output_short n l || t) (C.cut_serves (build_parts n) w ∙ ap (ltb w) (work_parts n))
