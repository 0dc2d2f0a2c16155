-- What Prepare works in: 55 words a polygon, 13 a vertex and 8, within what 01 allows; and one buffer that is cut serves exactly where it has them.
-- Assumes nothing.
use Prim.Native.Nat.{ℕ, ◌+◌, ◌-◌, ◌*◌, ◌≤◌, ◌<◌}
use native.Mathlib.Omega.{arith}
use mathlib.Core.Bool.{Bool, true, false, cond, ◌||◌, or-true}
use mathlib.Core.List.{List, [], ◌∷◌}
use mathlib.Core.Path.{◌≡◌, refl, ap, ◌∙◌}
use borrow.Author.Tests.{lt-ltb, le-ltb, ltb-true, ltb-false}
use lib.Dec.{ltb}
use lib.ListN.{get_or}
use Rattle.base.specs.Cuts.{lesser, total, cut, any_short}
use Rattle.base.proofs.CutLaws as C
use Rattle.meshes.specs.declared.Counts.{Counts}
use Rattle.meshes.specs.declared.Lengths.{Lengths}
use Rattle.meshes.specs.Sizes.{floats_short, short, work_words}
use Rattle.meshes.specs.Work.{prepare_parts, prepare_lent, outside_short, cut_prepare}

pub work_total : (p v : ℕ) → work_words p v ≡ 55 * p + 13 * v + 8
work_total p v = omega arith

-- 01, 2: at most 64 words for each polygon and vertex, and 64 more
pub work_bound : (p v : ℕ) → work_words p v ≤ 64 * (p + v + 1)
work_bound p v = omega arith

-- The work is all parts together, the bytes of `sorted` as words,
pub work_parts : (p v : ℕ) → total (prepare_parts p v) ≡ work_words p v
work_parts p v = omega arith

-- and these parts are what the check asks for.
pub asks_parts : (c : Counts) (l : Lengths)
    → short c l ≡ outside_short c l || any_short (prepare_parts c.polygons c.vertices) (prepare_lent l)
unfolding short
asks_parts c l =
    let p = c.polygons in
    let v = c.vertices in
    let words = (3 * p + 3 * v) ∷ (3 * p + v) ∷ (3 * p + v) ∷ (16 * p + 8 + v) ∷ [] in
    let words' = l.places ∷ l.temp ∷ l.stack ∷ l.rows ∷ [] in
    ap (λ (t : Bool). t || floats_short c l) (C.into_row (outside_short c l) (ltb l.entries (7 * p + 4 * v)) words words')
    ∙ C.into_row (C.short_after (outside_short c l || ltb l.entries (7 * p + 4 * v)) words words') (ltb l.points (3 * v))
    (p ∷ 4 * p ∷ 9 * p ∷ 9 * p ∷ []) (l.sorted ∷ l.centres ∷ l.olds ∷ l.news ∷ [])
    ∙ C.in_a_row (outside_short c l) (prepare_parts p v) (prepare_lent l)

-- ---- `sorted` gets words, of which the check counts the bytes

-- Of p words there are enough bytes. Of fewer there may be: then nothing is left for the part behind them.
bytes_serve : (p left : ℕ) (rest : Bool)
    → ltb (4 * lesser p left) p || (ltb (lesser (4 * p) (left - lesser p left)) (4 * p) || rest)
    ≡ ltb (lesser p left) p || (ltb (lesser (4 * p) (left - lesser p left)) (4 * p) || rest)
bytes_serve p left rest = by (ltb p left) (ltb left p) refl refl
  where
    by : (s t : Bool) → ltb p left ≡ s → ltb left p ≡ t
        → ltb (4 * cond s p left) p || (ltb (lesser (4 * p) (left - cond s p left)) (4 * p) || rest)
        ≡ ltb (cond s p left) p || (ltb (lesser (4 * p) (left - cond s p left)) (4 * p) || rest)
    by true t enough any = rw (le-ltb (4 * p) p (omega arith), le-ltb p p (omega arith))
    by false true most few =
        let less : left < p = ltb-true left p few in
        let none : left - left ≡ 0 = omega arith in
        rw (none, le-ltb (4 * p) 0 (omega arith), lt-ltb 0 (4 * p) (omega arith), lt-ltb left p less) (or-true (ltb (4 * left) p))
    by false false most least =
        let above : p ≤ left = ltb-false left p least in
        rw (le-ltb (4 * left) p (omega arith), le-ltb left p above)

-- what is left behind parts
abbrev left_behind : List ℕ → ℕ → ℕ
left_behind [] left = left
left_behind (least ∷ more) left = left_behind more (left - lesser least left)

-- the lengths that are lent of the parts
abbrev in_bytes : List ℕ → List ℕ
in_bytes parts =
    get_or parts 0 0 ∷ get_or parts 1 0 ∷ get_or parts 2 0 ∷ get_or parts 3 0 ∷ get_or parts 4 0 ∷ get_or parts 5 0 ∷ 4 * get_or parts 6 0 ∷ get_or parts 7 0
    ∷ get_or parts 8 0 ∷ get_or parts 9 0 ∷ []

sorted_serves : (p v w : ℕ)
    → any_short (prepare_parts p v) (in_bytes (cut (prepare_parts p v) w)) ≡ any_short (prepare_parts p v) (cut (prepare_parts p v) w)
sorted_serves p v w =
    let got = cut (prepare_parts p v) w in
    let six = (7 * p + 4 * v) ∷ (3 * p + 3 * v) ∷ (3 * p + v) ∷ (3 * p + v) ∷ (16 * p + 8 + v) ∷ 3 * v ∷ [] in
    ap (λ (t : Bool). ltb (get_or got 0 0) (7 * p + 4 * v) || (ltb (get_or got 1 0) (3 * p + 3 * v) || (ltb (get_or got 2 0) (3 * p + v)
    || (ltb (get_or got 3 0) (3 * p + v) || (ltb (get_or got 4 0) (16 * p + 8 + v) || (ltb (get_or got 5 0) (3 * v) || t))))))
    (bytes_serve p (left_behind six w) (any_short (9 * p ∷ 9 * p ∷ []) (get_or got 8 0 ∷ get_or got 9 0 ∷ [])))

-- A buffer of w words that is cut is too short exactly where it has fewer than `bounds_prepare_work_len` tells.
pub cut_serves : (c : Counts) (w : ℕ) (l : Lengths) → c.polygons ≤ 32767 → c.vertices ≤ 32768
    → short c (cut_prepare c w l) ≡ outside_short c l || ltb w (work_words c.polygons c.vertices)
cut_serves c w l within within' =
    let p = c.polygons in
    let v = c.vertices in
    asks_parts c (cut_prepare c w l)
    ∙ ap (λ (m : ℕ). outside_short c l || any_short (prepare_parts p v) (in_bytes (cut (prepare_parts m (lesser v 32768)) w)))
    (C.lesser_within p 32767 within)
    ∙ ap (λ (u : ℕ). outside_short c l || any_short (prepare_parts p v) (in_bytes (cut (prepare_parts p u) w))) (C.lesser_within v 32768 within')
    ∙ ap (λ (t : Bool). outside_short c l || t) (sorted_serves p v w ∙ C.cut_serves (prepare_parts p v) w ∙ ap (ltb w) (work_parts p v))
