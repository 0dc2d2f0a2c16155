-- What shrinking works in: 36 words a polygon and one a vertex, within what 01 allows; and one buffer that is cut serves exactly where it has them.
-- Assumes nothing.
use Prim.Native.Nat.{ℕ, ◌+◌, ◌*◌, ◌≤◌}
use native.Mathlib.Omega.{arith}
use mathlib.Core.Bool.{Bool, true, false, ◌||◌, or-true}
use mathlib.Core.List.{[], ◌∷◌}
use mathlib.Core.Path.{◌≡◌, refl, ap, ◌∙◌}
use lib.Dec.{ltb}
use Rattle.base.specs.Cuts.{lesser, total, cut, any_short}
use Rattle.base.proofs.CutLaws as C
use Rattle.verts_shrunk.specs.declared.entry.Lengths.{Lengths}
use Rattle.verts_shrunk.specs.Answers.{short, work_words}
use Rattle.verts_shrunk.specs.Work.{shrink_parts, shrink_lent, points_short, cut_shrink}

pub work_total : (n v : ℕ) → work_words n v ≡ 36 * n + v
work_total n v = omega arith

-- 01, 2: at most 64 words for each polygon and vertex, and 64 more
pub work_bound : (n v : ℕ) → work_words n v ≤ 64 * (n + v + 1)
work_bound n v = omega arith

-- The work is all parts together,
pub work_parts : (n v : ℕ) → total (shrink_parts n v) ≡ work_words n v
work_parts n v = omega arith

-- the third of the parts, `firsts`, is asked for before the others
first_third : (f c t rest : Bool) → f || (c || (t || rest)) ≡ c || (t || (f || rest))
first_third f true t rest = or-true f
first_third f false true rest = or-true f
first_third f false false rest = refl

-- and these parts are what the check asks for.
pub asks_parts : (n v : ℕ) (l : Lengths) → short n v l ≡ points_short n v l || any_short (shrink_parts n v) (shrink_lent l)
unfolding short
asks_parts n v l =
    C.in_a_row (points_short n v l) ((3 * n + v) ∷ 3 * n ∷ 3 * n ∷ 3 * n ∷ 3 * n ∷ 3 * n ∷ 9 * n ∷ 9 * n ∷ [])
    (l.firsts ∷ l.corners ∷ l.tri ∷ l.spare ∷ l.links ∷ l.normals ∷ l.olds ∷ l.news ∷ [])
    ∙ ap (λ (t : Bool). points_short n v l || t)
    (first_third (ltb l.firsts (3 * n + v)) (ltb l.corners (3 * n)) (ltb l.tri (3 * n))
    (any_short (3 * n ∷ 3 * n ∷ 3 * n ∷ 9 * n ∷ 9 * n ∷ []) (l.spare ∷ l.links ∷ l.normals ∷ l.olds ∷ l.news ∷ [])))

-- A buffer of w words that is cut is too short exactly where it has fewer than `bounds_shrink_work_len` tells.
pub cut_serves : (n v w : ℕ) (l : Lengths) → n ≤ 32767 → v ≤ 32768
    → short n v (cut_shrink n v w l) ≡ points_short n v l || ltb w (work_words n v)
cut_serves n v w l within within' =
    asks_parts n v (cut_shrink n v w l)
    ∙ ap (λ (m : ℕ). points_short n v l || any_short (shrink_parts n v) (cut (shrink_parts m (lesser v 32768)) w)) (C.lesser_within n 32767 within)
    ∙ ap (λ (u : ℕ). points_short n v l || any_short (shrink_parts n v) (cut (shrink_parts n u) w)) (C.lesser_within v 32768 within')
    ∙ ap (λ (t : Bool). points_short n v l || t) (C.cut_serves (shrink_parts n v) w ∙ ap (ltb w) (work_parts n v))
