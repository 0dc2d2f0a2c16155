-- The boxes by floats of the other kinds, where they are told, are those by words, rule G9's: each float is there and no NaN, so it is its word's.
-- A sphere is a pair of one vertex, and a vertex given again changes neither extreme. Of four vertices the extremes are floats of words, which -0
-- leaves as they are (MinusZero).
use Prim.Native.Nat.{ℕ, ◌<◌}
use mathlib.Core.Path.{◌≡◌, refl, sym, ap, ap₂, subst, ◌∙◌}
use mathlib.Core.Logic.{◌⊎◌, ⊎_elim}
use mathlib.Core.Bool.{Bool, false, cond}
use mathlib.Core.List.{List}
use lib.Dec.{T}
use lib.ListN.{get_or}
use lib.Ieee.{Float, binary32, of_bits, neg, fits}
use lib.Ieee.Bits.{of_bits-fits}
use Rattle.float32.specs.Extremes.{vmin_of, vmax_of}
use Rattle.float32.proofs.ExtremeLaws.{vmin_of_either_lem, vmax_of_either_lem}
use Rattle.math.specs.Stored.{values_of, bits_of, vmin_words_of, vmax_words_of}
use Rattle.math.specs.Vec3s.{both, vadd_of, vmin3_of, vmax3_of}
use Rattle.math.specs.declared.vec3.Vec3.{Vec3}
use Rattle.math.specs.declared.words3.Words3.{Words3}
use Rattle.polygon_boxes.specs.Boxes.{vertex_words, four_box, grown_box, pair_box}
use Rattle.polygon_boxes.proofs.NumberLaws.{Of}
use Rattle.float_boxes.specs.Floats.{four_floats, vertices_at, lesser_of, greater_of, moved_of, told_box, not_told, least_of, greatest_of, nan_in_sums, moved_floats}
use Rattle.float_boxes.specs.declared.FloatBox.{FloatBox}
use Rattle.float_boxes.specs.declared.Vertices4.{Vertices4}
use Rattle.float_boxes.proofs.BoxLaws.{floats_of, words_of, OfVertex, of_lesser, of_greater, words_by, of_vertex, told_by}
use Rattle.float_boxes.proofs.MinusZero.{add_minus_zero}
use Rattle.float_boxes.proofs.NanLaws.{sums_plain}

-- ---- a choice between two, and one of them again
module _ (f : Float → Float → Float) (either : (x y : Float) → (f x y ≡ x) ⊎ (f x y ≡ y)) where
  same : (x : Float) → f x x ≡ x
  same x = ⊎_elim (λ p. p) (λ p. p) (either x x)

  same_vertex : (a : Vec3) → both f a a ≡ a
  same_vertex a = λ i. record { x = same a.x i; y = same a.y i; z = same a.z i }

  thrice : (a b : Vec3) → both f (both f (both f a a) a) b ≡ both f a b
  thrice a b = ap (λ (v : Vec3). both f (both f v a) b) (same_vertex a) ∙ ap (λ (v : Vec3). both f v b) (same_vertex a)

-- ---- what a box that is told says
abbrev at : List ℕ → ℕ → Vec3
at ws i = (four_floats (floats_of ws) i).vertex

abbrev folded : (Vec3 → Vec3 → Vec3) → List ℕ → ℕ → ℕ → ℕ → ℕ → Vec3
folded f ws i j k l = f (f (f (at ws i) (at ws j)) (at ws k)) (at ws l)

abbrev Meant : List ℕ → ℕ → Type 0
Meant ws i = OfVertex (at ws i) (vertex_words ws i)

record Told (ws : List ℕ) (i j k l : ℕ) (low high : Float) : Type 0 where
  pub min : bits_of (moved_floats (floats_of ws) i j k l low high).min ≡ bits_of (vadd_of (folded vmin3_of ws i j k l) (neg low))
  pub max : bits_of (moved_floats (floats_of ws) i j k l low high).max ≡ bits_of (vadd_of (folded vmax3_of ws i j k l) high)
  pub first : Meant ws i
  pub second : Meant ws j
  pub third : Meant ws k
  pub fourth : Meant ws l

told : (ws : List ℕ) → ((i : ℕ) → get_or ws i 0 < 0x1_0000_0000) → (i j k l : ℕ) (low high : Float)
    → (moved_floats (floats_of ws) i j k l low high).told ≡ 1 → Told ws i j k l low high
unfolding told_box moved_of lesser_of greater_of
told ws h i j k l low high e =
    let v : Vertices4 = vertices_at (floats_of ws) i j k l in
    let box : FloatBox = told_box (least_of v low) (greatest_of v high) in
    let none : nan_in_sums v low high ≡ false = told_by (nan_in_sums v low high) box e in
    let p = sums_plain v low high none in
    record {
      min = ap (λ (t : Bool). bits_of (cond t not_told box).min) none;
      max = ap (λ (t : Bool). bits_of (cond t not_told box).max) none;
      first = of_vertex ws h i p.0;
      second = of_vertex ws h j p.1;
      third = of_vertex ws h k p.2;
      fourth = of_vertex ws h l p.3;
    }

-- ---- a sphere and a pair
values_by : (v : Vec3) (w : Words3) → OfVertex v w → v ≡ values_of w
values_by v w g = λ i. record { x = g.0.is i; y = g.1.is i; z = g.2.is i }

pub pair_by_floats : (ws : List ℕ) → ((i : ℕ) → get_or ws i 0 < 0x1_0000_0000) → (i j : ℕ) (r : Float)
    → (moved_floats (floats_of ws) i i i j r r).told ≡ 1
    → words_of (moved_floats (floats_of ws) i i i j r r) ≡ pair_box (vertex_words ws i) (vertex_words ws j) r
unfolding pair_box grown_box
pair_by_floats ws h i j r e =
    let t = told ws h i i i j r r e in
    let a = values_by (at ws i) (vertex_words ws i) t.first in
    let b = values_by (at ws j) (vertex_words ws j) t.fourth in
    let low = thrice vmin_of vmin_of_either_lem (at ws i) (at ws j) ∙ ap₂ vmin3_of a b in
    let high = thrice vmax_of vmax_of_either_lem (at ws i) (at ws j) ∙ ap₂ vmax3_of a b in
    let min = t.min ∙ ap (λ (v : Vec3). bits_of (vadd_of v (neg r))) low in
    let max = t.max ∙ ap (λ (v : Vec3). bits_of (vadd_of v r)) high in
    λ n. record { min = min n; max = max n }

pub sphere_by_floats : (ws : List ℕ) → ((i : ℕ) → get_or ws i 0 < 0x1_0000_0000) → (i : ℕ) (r : Float)
    → (moved_floats (floats_of ws) i i i i r r).told ≡ 1
    → words_of (moved_floats (floats_of ws) i i i i r r) ≡ grown_box (values_of (vertex_words ws i)) (values_of (vertex_words ws i)) r
unfolding pair_box
sphere_by_floats ws h i r e =
    let v : Vec3 = values_of (vertex_words ws i) in
    pair_by_floats ws h i i r e
    ∙ ap₂ (λ (low high : Vec3). grown_box low high r) (same_vertex vmin_of vmin_of_either_lem v) (same_vertex vmax_of vmax_of_either_lem v)

-- ---- four vertices
abbrev pub plus_zero : Float
plus_zero = of_bits binary32 0

abbrev pub minus_zero : Float
minus_zero = of_bits binary32 0x8000_0000

neg_zero : neg plus_zero ≡ minus_zero
unfolding neg of_bits
neg_zero = refl

fits_by : (x : Float) (n : ℕ) → Of x n → T (fits binary32 x)
fits_by x n g = subst (λ (y : Float). T (fits binary32 y)) (sym g.is) (of_bits-fits binary32 n)

stays : (v : Vec3) (w : Words3) → OfVertex v w → vadd_of v minus_zero ≡ v
stays v w g =
    let x = add_minus_zero v.x (fits_by v.x w.x g.0) in
    let y = add_minus_zero v.y (fits_by v.y w.y g.1) in
    let z = add_minus_zero v.z (fits_by v.z w.z g.2) in
    λ i. record { x = x i; y = y i; z = z i }

four_words : (f : Vec3 → Vec3 → Vec3) (g : Words3 → Words3 → Words3)
    → ((a b : Vec3) (u v : Words3) → OfVertex a u → OfVertex b v → OfVertex (f a b) (g u v))
    → {ws : List ℕ} {i j k l : ℕ} {low high : Float} → Told ws i j k l low high
    → bits_of (vadd_of (folded f ws i j k l) minus_zero) ≡ g (g (g (vertex_words ws i) (vertex_words ws j)) (vertex_words ws k)) (vertex_words ws l)
four_words f g of {ws} {i} {j} {k} {l} o =
    let a : Vec3 = f (at ws i) (at ws j) in
    let u : Words3 = g (vertex_words ws i) (vertex_words ws j) in
    let two = of (at ws i) (at ws j) (vertex_words ws i) (vertex_words ws j) o.first o.second in
    let three = of a (at ws k) u (vertex_words ws k) two o.third in
    let four = of (f a (at ws k)) (at ws l) (g u (vertex_words ws k)) (vertex_words ws l) three o.fourth in
    let corner : Vec3 = folded f ws i j k l in
    let words : Words3 = g (g u (vertex_words ws k)) (vertex_words ws l) in
    ap bits_of (stays corner words four) ∙ words_by corner words four

pub four_by_floats : (ws : List ℕ) → ((i : ℕ) → get_or ws i 0 < 0x1_0000_0000) → (i j k l : ℕ)
    → (moved_floats (floats_of ws) i j k l plus_zero minus_zero).told ≡ 1
    → words_of (moved_floats (floats_of ws) i j k l plus_zero minus_zero)
    ≡ four_box (vertex_words ws i) (vertex_words ws j) (vertex_words ws k) (vertex_words ws l)
unfolding four_box
four_by_floats ws h i j k l e =
    let o = told ws h i j k l plus_zero minus_zero e in
    let least = ap (λ (z : Float). bits_of (vadd_of (folded vmin3_of ws i j k l) z)) neg_zero in
    let min = o.min ∙ least ∙ four_words vmin3_of vmin_words_of of_lesser o in
    let max = o.max ∙ four_words vmax3_of vmax_words_of of_greater o in
    λ n. record { min = min n; max = max n }
