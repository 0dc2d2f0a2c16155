-- Points that lie as words: one more of them is written, and what is written or stands behind is as it was. Assumes nothing.
use Prim.Native.Nat.{ℕ, ◌+◌, ◌*◌, ◌≤◌}
use native.Mathlib.Numerals.{add-one}
use native.Mathlib.Omega.{arith}
use mathlib.Core.Path.{◌≡◌, refl, sym, ap, ap₂, ◌∙◌}
use mathlib.Core.List.{List, ◌++◌}
use lib.ListN.{length, get_or, take, drop, length-append}
use lib.Seq.{get_or-drop, drop-drop, sets, sets-eq, take_at, drop_at, length-take-le}
use Rattle.base.specs.Lists.{over}
use Rattle.base.proofs.StoreLaws.{over_next}
use Rattle.corners.specs.Corners.{in_turn}
use Rattle.corners.proofs.CornerLaws.{length_in_turn}
use Rattle.math.specs.declared.vec3.Vec3.{Vec3}
use Rattle.math.specs.Stored.{values_of}
use Rattle.points.specs.Points.{vertex_at, words_of}

-- ---- the points are written one after the other

pub points_more : (points : List ℕ) (i : ℕ) (at : ℕ → Vec3) → 3 * i + 3 ≤ length points → take (3 * i) points ≡ in_turn i (λ i. words_of (at i))
    → take (3 * (i + 1)) (sets points (3 * i) (words_of (at i))) ≡ in_turn (i + 1) (λ i. words_of (at i))
points_more points i at h e =
    let w = words_of (at i) in
    let three : 3 * (i + 1) ≡ 3 * i + 3 = omega arith in
    let size : length (take (3 * i) points ++ w) ≡ 3 * i + 3 =
    omega (arith, length-append (take (3 * i) points) w, length-take-le (3 * i) points (omega arith)) in
    let cut = sets-eq w points (3 * i) h in
    ap₂ take three cut
    ∙ take_at (take (3 * i) points ++ w) (drop (3 * i + 3) points) (3 * i + 3) size
    ∙ ap (λ (l : List ℕ). l ++ w) e
    ∙ sym (ap (λ (k : ℕ). in_turn k (λ i. words_of (at i))) (add-one i))

-- and those behind are left as they were
pub points_behind : (points : List ℕ) (i : ℕ) (p : Vec3) → 3 * i + 3 ≤ length points → drop (3 * (i + 1)) (sets points (3 * i) (words_of p))
    ≡ drop 3 (drop (3 * i) points)
points_behind points i p h =
    let w = words_of p in
    let three : 3 * (i + 1) ≡ 3 * i + 3 = omega arith in
    let size : length (take (3 * i) points ++ w) ≡ 3 * i + 3 =
    omega (arith, length-append (take (3 * i) points) w, length-take-le (3 * i) points (omega arith)) in
    ap₂ drop three (sets-eq w points (3 * i) h)
    ∙ drop_at (take (3 * i) points ++ w) (drop (3 * i + 3) points) (3 * i + 3) size
    ∙ sym (drop-drop 3 (3 * i) points)

pub point_behind : (xs ys : List ℕ) (i : ℕ) → drop (3 * i) xs ≡ drop (3 * i) ys → vertex_at xs i ≡ vertex_at ys i
point_behind xs ys i e =
    let zero-on : 3 * i ≡ 3 * i + 0 = omega arith in
    let at : (k : ℕ) → get_or xs (3 * i + k) 0 ≡ get_or ys (3 * i + k) 0 =
    λ k. sym (get_or-drop (3 * i) xs k 0) ∙ ap (λ (l : List ℕ). get_or l k 0) e ∙ get_or-drop (3 * i) ys k 0 in
    let x : get_or xs (3 * i) 0 ≡ get_or ys (3 * i) 0 = ap (λ (k : ℕ). get_or xs k 0) zero-on ∙ at 0 ∙ sym (ap (λ (k : ℕ). get_or ys k 0) zero-on) in
    λ j. values_of (record { x = x j; y = at 1 j; z = at 2 j })

-- ---- the points written over a list

pub length_points : (at : ℕ → Vec3) (v : ℕ) → length (in_turn v (λ i. words_of (at i))) ≡ 3 * v
length_points at v = length_in_turn 3 (λ i. words_of (at i)) v (λ p h. refl)

-- Once i points are written over a list, one more.
pub points_next : (at : ℕ → Vec3) (before : List ℕ) (i : ℕ) → 3 * i + 3 ≤ length before
    → sets (over (in_turn i (λ i. words_of (at i))) before) (3 * i) (words_of (at i)) ≡ over (in_turn (i + 1) (λ i. words_of (at i))) before
points_next at before i h =
    over_next (in_turn i (λ i. words_of (at i))) (words_of (at i)) before (3 * i) (length_points at i) h
    ∙ sym (ap (λ (k : ℕ). over (in_turn k (λ i. words_of (at i))) before) (add-one i))
