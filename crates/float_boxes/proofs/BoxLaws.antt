-- The box by floats, where it is told, is the box by words, rule G9's: each float is there and no NaN, so it has one word, and a choice
-- between words is that between their floats.
use Prim.Native.Nat.{ℕ, zero, suc, ◌+◌, ◌*◌, ◌/◌, ◌%◌, ◌<◌}
use native.Mathlib.Omega.{arith}
use mathlib.Core.Path.{◌≡◌, refl, sym, ap, subst, ◌∙◌}
use mathlib.Core.Bool.{Bool, true, false, cond, true≢false}
use mathlib.Core.List.{List, [], ◌∷◌, map}
use lib.ListN.{length, get_or}
use lib.Ieee.{Float, binary32, of_bits, is_nan, nan}
use lib.Ieee.Bits.{nan_bits_is, nan_bits_above}
use borrow.Author.Tests.{lt-ltb, ltb-false}
use Rattle.entries.specs.Plain.{Number}
use Rattle.float32.specs.Extremes.{vmin_of, vmax_of}
use Rattle.math.specs.Stored.{bits_of, vmin_words_of, vmax_words_of}
use Rattle.math.specs.Vec3s.{vmin3_of, vmax3_of}
use Rattle.math.specs.declared.vec3.Vec3.{Vec3}
use Rattle.math.specs.declared.words3.Words3.{Words3}
use Rattle.polygon_boxes.specs.Boxes.{vertex_words, three_box, triangle_box}
use Rattle.polygon_boxes.specs.declared.PolygonBox.{PolygonBox}
use Rattle.polygon_boxes.proofs.NumberLaws.{Word, Of, of_word, of_min, of_max, word_by}
use Rattle.float_boxes.specs.Floats.{four_floats, vertices_at, lesser_of, greater_of, told_box, box_of_three, nan_in_three, not_told, triangle_floats}
use Rattle.float_boxes.specs.declared.FloatBox.{FloatBox}
use Rattle.float_boxes.specs.declared.Vertices4.{Vertices4}
use Rattle.float_boxes.proofs.NanLaws.{Plain, three_plain}

-- the floats that the words stand for, and the words of a box without what is spare
abbrev pub floats_of : List ℕ → List Float
floats_of ws = map (of_bits binary32) ws

abbrev pub words_of : FloatBox → PolygonBox
words_of r = record { min = bits_of r.min; max = bits_of r.max }

-- ---- a float that is no NaN is there
there : (ws : List ℕ) (i : ℕ) → is_nan (get_or (floats_of ws) i nan) ≡ false → (get_or (floats_of ws) i nan ≡ of_bits binary32 (get_or ws i 0)) × (i < length ws)
unfolding is_nan
there [] i e = absurd (true≢false e)
there (w ∷ ws) zero e = (refl, omega arith)
there (w ∷ ws) (suc i) e = let r = there ws i e in (r.0, omega (arith, r.1))

number : (n : ℕ) → is_nan (of_bits binary32 n) ≡ false → Number n
number n e = ltb-false 0x7f80_0000 (n % 0x8000_0000) (sym (nan_bits_above binary32 n) ∙ nan_bits_is binary32 n ∙ e)

of_float : (ws : List ℕ) → ((i : ℕ) → Word (get_or ws i 0)) → (i : ℕ) → is_nan (get_or (floats_of ws) i nan) ≡ false → Of (get_or (floats_of ws) i nan) (get_or ws i 0)
of_float ws h i e =
    let n : ℕ = get_or ws i 0 in
    let is : get_or (floats_of ws) i nan ≡ of_bits binary32 n = (there ws i e).0 in
    let number_is : Number n = number n (sym (ap is_nan is) ∙ e) in
    subst (λ (x : Float). Of x n) (sym is) (of_word n (h i) number_is)

-- ---- axis by axis
abbrev pub OfVertex : Vec3 → Words3 → Type 0
OfVertex v w = Of v.x w.x × Of v.y w.y × Of v.z w.z

pub of_lesser : (a b : Vec3) (u v : Words3) → OfVertex a u → OfVertex b v → OfVertex (vmin3_of a b) (vmin_words_of u v)
of_lesser a b u v g h = (
  of_min (vmin_of a.x b.x) a.x b.x u.x v.x refl g.0 h.0,
  of_min (vmin_of a.y b.y) a.y b.y u.y v.y refl g.1 h.1,
  of_min (vmin_of a.z b.z) a.z b.z u.z v.z refl g.2 h.2,
)

pub of_greater : (a b : Vec3) (u v : Words3) → OfVertex a u → OfVertex b v → OfVertex (vmax3_of a b) (vmax_words_of u v)
of_greater a b u v g h = (
  of_max (vmax_of a.x b.x) a.x b.x u.x v.x refl g.0 h.0,
  of_max (vmax_of a.y b.y) a.y b.y u.y v.y refl g.1 h.1,
  of_max (vmax_of a.z b.z) a.z b.z u.z v.z refl g.2 h.2,
)

pub words_by : (v : Vec3) (w : Words3) → OfVertex v w → bits_of v ≡ w
words_by v w g =
    let x = word_by v.x w.x g.0 in
    let y = word_by v.y w.y g.1 in
    let z = word_by v.z w.z g.2 in
    λ i. record { x = x i; y = y i; z = z i }

box_words_lem : (t : Vertices4) (u v w : Words3) → OfVertex t.a.vertex u → OfVertex t.b.vertex v → OfVertex t.c.vertex w
    → words_of (box_of_three t) ≡ three_box u v w
unfolding told_box lesser_of greater_of three_box
box_words_lem t u v w g h k =
    let a : Vec3 = t.a.vertex in
    let b : Vec3 = t.b.vertex in
    let d : Vec3 = t.c.vertex in
    let low : Vec3 = vmin3_of a b in
    let high : Vec3 = vmax3_of a b in
    let lows : Words3 = vmin_words_of u v in
    let highs : Words3 = vmax_words_of u v in
    let min = words_by (vmin3_of low d) (vmin_words_of lows w) (of_lesser low d lows w (of_lesser a b u v g h) k) in
    let max = words_by (vmax3_of high d) (vmax_words_of highs w) (of_greater high d highs w (of_greater a b u v g h) k) in
    λ i. record { min = min i; max = max i }

-- ---- a vertex without a NaN
pub of_vertex : (ws : List ℕ) → ((i : ℕ) → Word (get_or ws i 0)) → (i : ℕ) → Plain (four_floats (floats_of ws) i)
    → OfVertex (four_floats (floats_of ws) i).vertex (vertex_words ws i)
unfolding four_floats vertex_words
of_vertex ws h i p =
    let last : 3 * i + 2 < length ws = (there ws (3 * i + 2) p.z).1 in
    let within : i < length ws / 3 = omega (arith, last) in
    rw (lt-ltb i (length ws / 3) within) (of_float ws h (3 * i) p.x, of_float ws h (3 * i + 1) p.y, of_float ws h (3 * i + 2) p.z)

-- ---- the box
pub told_by : (t : Bool) (r : FloatBox) → (cond t not_told r).told ≡ 1 → t ≡ false
unfolding not_told
told_by true r e = absurd (omega (arith, e))
told_by false r e = refl

pub box_by_floats : (ws : List ℕ) → ((i : ℕ) → get_or ws i 0 < 0x1_0000_0000) → (v1 v2 v3 : ℕ)
    → (triangle_floats (floats_of ws) v1 v2 v3).told ≡ 1
    → words_of (triangle_floats (floats_of ws) v1 v2 v3) ≡ triangle_box ws v1 v2 v3
box_by_floats ws h v1 v2 v3 e =
    let i : ℕ = v1 % 32768 in
    let j : ℕ = v2 % 32768 in
    let k : ℕ = v3 % 32768 in
    let v : Vertices4 = vertices_at (floats_of ws) i j k k in
    let none : nan_in_three v ≡ false = told_by (nan_in_three v) (box_of_three v) e in
    let p = three_plain v none in
    ap (λ (t : Bool). words_of (cond t not_told (box_of_three v))) none
    ∙ box_words_lem v (vertex_words ws i) (vertex_words ws j) (vertex_words ws k) (of_vertex ws h i p.0) (of_vertex ws h j p.1) (of_vertex ws h k p.2)
