-- Where a test finds no NaN, no lane of the vertices has one, and each vertex is there with a float behind it, since a NaN stands for what is
-- not. So a test finds one where a vertex is not there.
use Prim.Native.Nat.{ℕ, ◌+◌, ◌*◌, ◌≤◌, ◌<◌}
use native.Mathlib.Omega.{arith}
use mathlib.Core.Path.{◌≡◌, refl, sym, ap, ◌∙◌}
use mathlib.Core.Logic.{◌⊎◌, ⊎_elim}
use mathlib.Core.Bool.{Bool, true, false, ◌||◌, true≢false}
use mathlib.Core.List.{List}
use lib.ListN.{length, get_or-eq_default}
use lib.Ieee.{Float, nan, inf, fin, add, is_nan}
use Rattle.base.proofs.Truth.{neither}
use Rattle.math.specs.Vec3s.{◌⊕◌}
use Rattle.float_boxes.specs.Floats.{four_floats, vertices_at, nan_in, plus_of, least_of, greatest_of, nan_in_three, nan_in_sums}
use Rattle.float_boxes.specs.declared.Floats4.{Floats4}
use Rattle.float_boxes.specs.declared.Vertices4.{Vertices4}

-- ---- no NaN
pub record Plain (v : Floats4) : Type 0 where
  pub x : is_nan v.vertex.x ≡ false
  pub y : is_nan v.vertex.y ≡ false
  pub z : is_nan v.vertex.z ≡ false
  pub next : is_nan v.next ≡ false

both_plain : (a b : Floats4) → nan_in a b ≡ false → Plain a × Plain b
unfolding nan_in
both_plain a b e =
    let x : Bool = is_nan a.vertex.x || is_nan b.vertex.x in
    let y : Bool = is_nan a.vertex.y || is_nan b.vertex.y in
    let z : Bool = is_nan a.vertex.z || is_nan b.vertex.z in
    let w : Bool = is_nan a.next || is_nan b.next in
    let all = neither (x || y) (z || w) e in
    let near = neither x y all.0 in
    let far = neither z w all.1 in
    let xs = neither (is_nan a.vertex.x) (is_nan b.vertex.x) near.0 in
    let ys = neither (is_nan a.vertex.y) (is_nan b.vertex.y) near.1 in
    let zs = neither (is_nan a.vertex.z) (is_nan b.vertex.z) far.0 in
    let ws = neither (is_nan a.next) (is_nan b.next) far.1 in
    (record { x = xs.0; y = ys.0; z = zs.0; next = ws.0 }, record { x = xs.1; y = ys.1; z = zs.1; next = ws.1 })

-- a sum that is no NaN is of two that are none
sum_plain : (x y : Float) → is_nan (x ⊕ y) ≡ false → (is_nan x ≡ false) × (is_nan y ≡ false)
unfolding is_nan add
sum_plain nan y e = absurd (true≢false e)
sum_plain (inf s) nan e = absurd (true≢false e)
sum_plain (inf s) (inf t) e = (refl, refl)
sum_plain (inf s) (fin t n d) e = (refl, refl)
sum_plain (fin s m k) nan e = absurd (true≢false e)
sum_plain (fin s m k) (inf t) e = (refl, refl)
sum_plain (fin s m k) (fin t n d) e = (refl, refl)

plus_plain : (a b : Floats4) → Plain (plus_of a b) → Plain a × Plain b
unfolding plus_of
plus_plain a b p =
    let x = sum_plain a.vertex.x b.vertex.x p.x in
    let y = sum_plain a.vertex.y b.vertex.y p.y in
    let z = sum_plain a.vertex.z b.vertex.z p.z in
    let w = sum_plain a.next b.next p.next in
    (record { x = x.0; y = y.0; z = z.0; next = w.0 }, record { x = x.1; y = y.1; z = z.1; next = w.1 })

pub three_plain : (v : Vertices4) → nan_in_three v ≡ false → Plain v.a × Plain v.b × Plain v.c
three_plain v e =
    let tests = neither (nan_in v.a v.b) (nan_in v.b v.c) e in
    let near = both_plain v.a v.b tests.0 in
    (near.0, near.1, (both_plain v.b v.c tests.1).1)

pub sums_plain : (v : Vertices4) (low high : Float) → nan_in_sums v low high ≡ false → Plain v.a × Plain v.b × Plain v.c × Plain v.d
sums_plain v low high e =
    let first : Floats4 = plus_of v.a v.b in
    let second : Floats4 = plus_of v.c v.d in
    let all = both_plain (plus_of first second) (plus_of (least_of v low) (greatest_of v high)) e in
    let two = plus_plain first second all.0 in
    let near = plus_plain v.a v.b two.0 in
    let far = plus_plain v.c v.d two.1 in
    (near.0, near.1, far.0, far.1)

-- ---- a vertex that is not there
there : (fs : List Float) (i : ℕ) → Plain (four_floats fs i) → length fs < 3 * i + 4 → ⊥
unfolding four_floats is_nan
there fs i p h =
    let past : length fs ≤ 3 * i + 3 = omega (arith, h) in
    true≢false (sym (ap is_nan (get_or-eq_default fs nan past)) ∙ p.next)

must : (t : Bool) → (t ≡ false → ⊥) → t ≡ true
must true h = refl
must false h = absurd (h refl)

abbrev pub Missing : List Float → ℕ → ℕ → ℕ → ℕ → Type 0
Missing fs i j k l = ((length fs < 3 * i + 4) ⊎ (length fs < 3 * j + 4)) ⊎ ((length fs < 3 * k + 4) ⊎ (length fs < 3 * l + 4))

pub three_not_there : (fs : List Float) (i j k : ℕ) → Missing fs i j k k → nan_in_three (vertices_at fs i j k k) ≡ true
three_not_there fs i j k h =
    let v : Vertices4 = vertices_at fs i j k k in
    must (nan_in_three v)
    (λ e.
    let p = three_plain v e in
    ⊎_elim (⊎_elim (there fs i p.0) (there fs j p.1)) (⊎_elim (there fs k p.2) (there fs k p.2)) h)

pub four_not_there : (fs : List Float) (i j k l : ℕ) (low high : Float) → Missing fs i j k l → nan_in_sums (vertices_at fs i j k l) low high ≡ true
four_not_there fs i j k l low high h =
    let v : Vertices4 = vertices_at fs i j k l in
    must (nan_in_sums v low high)
    (λ e.
    let p = sums_plain v low high e in
    ⊎_elim (⊎_elim (there fs i p.0) (there fs j p.1)) (⊎_elim (there fs k p.2) (there fs l p.3)) h)
