-- A vertex's sum, one side more; a point that is stored is read back; and the sums once a triangle is added at its three corners.
use Prim.Native.Nat.{ℕ, suc, ◌+◌, ◌*◌, ◌/◌, ◌≤◌, ◌<◌}
use native.Mathlib.Omega.{arith}
use native.Mathlib.Numerals.{add-one}
use mathlib.Core.Bool.{Bool, true, false, not, cond, ◌&&◌, ◌||◌}
use mathlib.Core.Path.{◌≡◌, refl, sym, ap, ap₂, subst, ◌∙◌}
use mathlib.Core.List.{List, [], ◌∷◌, ◌++◌, map}
use lib.Dec.{eqb, leb}
use lib.ListN.{length, get_or, set, length-set}
use lib.Seq.{sets, get_or-set_same, get_or-set_other}
use lib.Ieee.{binary32, to_bits}
use lib.Ieee.Bits.{of_bits-to_bits}
use lib.Ieee.Fits.{add-fits}
use borrow.Author.Tests.{eqb-true, eqb-false, le-leb, lt-leb}
use Rattle.base.specs.Lists.{sift, up_from}
use Rattle.sides.proofs.UpFromLaws.{counting_more}
use Rattle.math.specs.declared.vec3.Vec3.{Vec3}
use Rattle.math.specs.Stored.{values_of}
use Rattle.math.specs.Vec3s.{add_of}
use Rattle.points.specs.Points.{vertex_at, words_of}
use Rattle.rays.specs.Checks.{missing}
use Rattle.rings.specs.Moving.{sum_from}
use Rattle.rings.specs.Normals.{origin}
use Rattle.by_normals.specs.Normals.{Placed, triangle_normal, stands_at, sum_at}
use Rattle.by_normals.specs.Steps.Sums.{Sums}

-- ---- one side more

sum_append : (f : ℕ → Vec3) (s : Vec3) (xs ys : List ℕ) → sum_from s (map f (xs ++ ys)) ≡ sum_from (sum_from s (map f xs)) (map f ys)
sum_append f s [] ys = refl
sum_append f s (x ∷ xs) ys = sum_append f (add_of s (f x)) xs ys

module _ (g : Placed) (i : ℕ) where
  normal_at : ℕ → Vec3
  normal_at s = triangle_normal g (s / 3)

  by_last : (m : ℕ) → sum_at g i (m + 1) ≡ sum_from (sum_at g i m) (map (λ s. triangle_normal g (s / 3)) (sift (stands_at g i) (m ∷ [])))
  unfolding sum_at
  by_last m =
      let f : ℕ → Vec3 = λ s. triangle_normal g (s / 3) in
      let z : 0 + m ≡ m = omega arith in
      ap (λ (k : ℕ). sum_from origin (map f (sift (stands_at g i) (up_from 0 k)))) (add-one m)
      ∙ ap (λ (l : List ℕ). sum_from origin (map f l)) (counting_more (stands_at g i) 0 m)
      ∙ sum_append f origin (sift (stands_at g i) (up_from 0 m)) (sift (stands_at g i) ((0 + m) ∷ []))
      ∙ ap (λ (k : ℕ). sum_from (sum_from origin (map f (sift (stands_at g i) (up_from 0 m)))) (map f (sift (stands_at g i) (k ∷ [])))) z

  -- where the vertex stands at the side, and where it does not
  pub sum_more : (m : ℕ) → stands_at g i m ≡ true → sum_at g i (m + 1) ≡ add_of (sum_at g i m) (triangle_normal g (m / 3))
  sum_more m e =
      by_last m ∙ ap (λ (b : Bool). sum_from (sum_at g i m) (map (λ s. triangle_normal g (s / 3)) (cond b (m ∷ []) []))) e

  pub sum_same : (m : ℕ) → stands_at g i m ≡ false → sum_at g i (m + 1) ≡ sum_at g i m
  sum_same m e =
      by_last m ∙ ap (λ (b : Bool). sum_from (sum_at g i m) (map (λ s. triangle_normal g (s / 3)) (cond b (m ∷ []) []))) e

-- ---- a point that is stored

module _ (ws : List ℕ) (i : ℕ) (p : Vec3) where
  abbrev stored : List ℕ
  stored = sets ws (3 * i) (words_of p)

  elsewhere : (m : ℕ) → (m ≡ 3 * i → ⊥) → (m ≡ 3 * i + 1 → ⊥) → (m ≡ 3 * i + 2 → ⊥) → get_or stored m 0 ≡ get_or ws m 0
  elsewhere m x y z =
      let r = set ws (3 * i) (to_bits binary32 p.x) in
      let s = set r (suc (3 * i)) (to_bits binary32 p.y) in
      get_or-set_other s (suc (suc (3 * i))) m (to_bits binary32 p.z) 0 (λ e. z (omega arith))
      ∙ get_or-set_other r (suc (3 * i)) m (to_bits binary32 p.y) 0 (λ e. y (omega arith))
      ∙ get_or-set_other ws (3 * i) m (to_bits binary32 p.x) 0 x

  -- every other point is as it was
  pub point_kept : (k : ℕ) → (k ≡ i → ⊥) → vertex_at stored k ≡ vertex_at ws k
  point_kept k d =
      let x = elsewhere (3 * k) (λ e. d (omega arith)) (λ e. omega arith) (λ e. omega arith) in
      let y = elsewhere (3 * k + 1) (λ e. omega arith) (λ e. d (omega arith)) (λ e. omega arith) in
      let z = elsewhere (3 * k + 2) (λ e. omega arith) (λ e. omega arith) (λ e. d (omega arith)) in
      λ j. values_of (record { x = x j; y = y j; z = z j })

  words_there : 3 * i + 3 ≤ length ws → vertex_at stored i
      ≡ values_of (record { x = to_bits binary32 p.x; y = to_bits binary32 p.y; z = to_bits binary32 p.z })
  words_there h =
      let r = set ws (3 * i) (to_bits binary32 p.x) in
      let s = set r (suc (3 * i)) (to_bits binary32 p.y) in
      let nr : length r ≡ length ws = length-set ws (3 * i) (to_bits binary32 p.x) in
      let ns : length s ≡ length ws = length-set r (suc (3 * i)) (to_bits binary32 p.y) ∙ nr in
      let second : 3 * i + 1 ≡ suc (3 * i) = omega arith in
      let third : 3 * i + 2 ≡ suc (suc (3 * i)) = omega arith in
      let x =
      get_or-set_other s (suc (suc (3 * i))) (3 * i) (to_bits binary32 p.z) 0 (λ e. omega arith)
      ∙ get_or-set_other r (suc (3 * i)) (3 * i) (to_bits binary32 p.y) 0 (λ e. omega arith)
      ∙ get_or-set_same ws (3 * i) (to_bits binary32 p.x) 0 (omega arith) in
      let y =
      ap (λ (k : ℕ). get_or stored k 0) second
      ∙ get_or-set_other s (suc (suc (3 * i))) (suc (3 * i)) (to_bits binary32 p.z) 0 (λ e. omega arith)
      ∙ get_or-set_same r (suc (3 * i)) (to_bits binary32 p.y) 0 (omega arith) in
      let z = ap (λ (k : ℕ). get_or stored k 0) third ∙ get_or-set_same s (suc (suc (3 * i))) (to_bits binary32 p.z) 0 (omega arith) in
      λ j. values_of (record { x = x j; y = y j; z = z j })

-- a sum is read back as it was: also a NaN, of which there is one
pub sum_there : (ws : List ℕ) (i : ℕ) (a b : Vec3) → 3 * i + 3 ≤ length ws → vertex_at (sets ws (3 * i) (words_of (add_of a b))) i ≡ add_of a b
sum_there ws i a b h =
    let x = of_bits-to_bits binary32 (add_of a b).x (add-fits binary32 a.x b.x) in
    let y = of_bits-to_bits binary32 (add_of a b).y (add-fits binary32 a.y b.y) in
    let z = of_bits-to_bits binary32 (add_of a b).z (add-fits binary32 a.z b.z) in
    words_there ws i (add_of a b) h ∙ (λ j. record { x = x j; y = y j; z = z j })

-- ---- the sums, one side more

module _ (g : Placed) where
  none_yet : (ws : List ℕ) → ((i : ℕ) → i < g.v → vertex_at ws i ≡ origin) → Sums g 0 ws
  unfolding sum_at
  none_yet ws h = record { sums = h }

  -- Words that are all zero hold the sums of no sides.
  pub sums_begin : (ws : List ℕ) → length ws ≡ 3 * g.v → ((b : ℕ) → b < length ws → get_or ws b 0 ≡ 0) → Sums g 0 ws
  sums_begin ws size h =
      none_yet ws
      (λ i l.
      let x = h (3 * i) (omega arith) in
      let y = h (3 * i + 1) (omega arith) in
      let z = h (3 * i + 2) (omega arith) in
      λ j. values_of (record { x = x j; y = y j; z = z j }))

  one_side : (s i : ℕ) (n : Vec3) (ws next : List ℕ) → length ws ≡ 3 * g.v → get_or g.corners s 0 ≡ i → i < g.v
      → missing g.corners g.v (s / 3) ≡ false → n ≡ triangle_normal g (s / 3) → next ≡ sets ws (3 * i) (words_of (add_of (vertex_at ws i) n))
      → Sums g s ws → Sums g (s + 1) next
  one_side s i n ws next size at here whole e put before =
      record { sums = λ k h. ap (λ (l : List ℕ). vertex_at l k) put ∙ go k h (eqb (get_or g.corners s 0) k) refl }
    where
      go : (k : ℕ) → k < g.v → (b : Bool) → eqb (get_or g.corners s 0) k ≡ b
          → vertex_at (sets ws (3 * i) (words_of (add_of (vertex_at ws i) n))) k ≡ sum_at g k (s + 1)
      go k h true d =
          let same : i ≡ k = sym at ∙ eqb-true (get_or g.corners s 0) k d in
          ap (λ (m : ℕ). vertex_at (sets ws (3 * m) (words_of (add_of (vertex_at ws m) n))) k) same
          ∙ sum_there ws k (vertex_at ws k) n (omega arith)
          ∙ ap₂ add_of (before.sums k h) e
          ∙ sym (sum_more g k s (ap₂ (λ (x y : Bool). x && not y) d whole))
      go k h false d =
          let other : k ≡ i → ⊥ = λ f. eqb-false (get_or g.corners s 0) k d (at ∙ sym f) in
          point_kept ws i (add_of (vertex_at ws i) n) k other
          ∙ before.sums k h
          ∙ sym (sum_same g k s (ap (λ (x : Bool). x && not (missing g.corners g.v (s / 3))) d))

  -- ---- a triangle with a corner past the vertices, by its corners

  and_false : (a : Bool) → a && false ≡ false
  and_false true = refl
  and_false false = refl

  pub none_added : (p : ℕ) (ws : List ℕ) → missing g.corners g.v p ≡ true → Sums g (3 * p) ws → Sums g (3 * p + 3) ws
  none_added p ws gone before =
      let first : 3 * p / 3 ≡ p = omega arith in
      let second : (3 * p + 1) / 3 ≡ p = omega arith in
      let third : (3 * p + 1 + 1) / 3 ≡ p = omega arith in
      let end : 3 * p + 3 ≡ 3 * p + 1 + 1 + 1 = omega arith in
      let off : (i s : ℕ) → s / 3 ≡ p → stands_at g i s ≡ false =
      λ i s e.
      ap (λ (q : ℕ). eqb (get_or g.corners s 0) i && not (missing g.corners g.v q)) e
      ∙ ap (λ (b : Bool). eqb (get_or g.corners s 0) i && not b) gone ∙ and_false (eqb (get_or g.corners s 0) i) in
      record {
        sums =
            λ i h.
            before.sums i h
            ∙ sym (ap (sum_at g i) end ∙ sum_same g i (3 * p + 1 + 1) (off i (3 * p + 1 + 1) third) ∙ sum_same g i (3 * p + 1) (off i (3 * p + 1) second)
            ∙ sum_same g i (3 * p) (off i (3 * p) first));
      }

  module _ (p : ℕ) where
    abbrev a : ℕ
    a = get_or g.corners (3 * p) 0

    abbrev b : ℕ
    b = get_or g.corners (3 * p + 1) 0

    abbrev c : ℕ
    c = get_or g.corners (3 * p + 2) 0

    by : (x y z : Bool) → leb g.v a ≡ x → leb g.v b ≡ y → leb g.v c ≡ z → missing g.corners g.v p ≡ x || (y || z)
    by x y z f h k = λ i. f i || (h i || k i)

    pub first_gone : g.v ≤ a → missing g.corners g.v p ≡ true
    first_gone f = by true (leb g.v b) (leb g.v c) (le-leb g.v a f) refl refl

    pub second_gone : a < g.v → g.v ≤ b → missing g.corners g.v p ≡ true
    second_gone f h = by false true (leb g.v c) (lt-leb g.v a f) (le-leb g.v b h) refl

    pub third_gone : a < g.v → b < g.v → g.v ≤ c → missing g.corners g.v p ≡ true
    third_gone f h k = by false false true (lt-leb g.v a f) (lt-leb g.v b h) (le-leb g.v c k)

    none_gone : a < g.v → b < g.v → c < g.v → missing g.corners g.v p ≡ false
    none_gone f h k = by false false false (lt-leb g.v a f) (lt-leb g.v b h) (lt-leb g.v c k)

    -- The normal of a whole triangle, added at its corners one after the other.
    pub one_added : (n : Vec3) (ws u w x : List ℕ) → length ws ≡ 3 * g.v → length u ≡ length ws → length w ≡ length u → a < g.v → b < g.v → c < g.v
        → n ≡ triangle_normal g p → u ≡ sets ws (3 * a) (words_of (add_of (vertex_at ws a) n)) → w ≡ sets u (3 * b) (words_of (add_of (vertex_at u b) n))
        → x ≡ sets w (3 * c) (words_of (add_of (vertex_at w c) n)) → Sums g (3 * p) ws → Sums g (3 * p + 3) x
    one_added n ws u w x size su sw ha hb hc e pu pw px before =
        let first : p ≡ 3 * p / 3 = omega arith in
        let second : p ≡ (3 * p + 1) / 3 = omega arith in
        let third : p ≡ (3 * p + 1 + 1) / 3 = omega arith in
        let at-third : 3 * p + 1 + 1 ≡ 3 * p + 2 = omega arith in
        let end : 3 * p + 1 + 1 + 1 ≡ 3 * p + 3 = omega arith in
        let whole = none_gone ha hb hc in
        let gone : (q : ℕ) → p ≡ q → missing g.corners g.v q ≡ false =
        λ q f. subst (λ (r : ℕ). missing g.corners g.v r ≡ false) f whole in
        let same : (q : ℕ) → p ≡ q → n ≡ triangle_normal g q = λ q f. e ∙ ap (triangle_normal g) f in
        let at_a = one_side (3 * p) a n ws u size refl ha (gone (3 * p / 3) first) (same (3 * p / 3) first) pu before in
        let at_b =
        one_side (3 * p + 1) b n u w (su ∙ size) refl hb (gone ((3 * p + 1) / 3) second) (same ((3 * p + 1) / 3) second) pw at_a in
        let at_c =
        one_side (3 * p + 1 + 1) c n w x (sw ∙ su ∙ size) (ap (λ (s : ℕ). get_or g.corners s 0) at-third) hc (gone ((3 * p + 1 + 1) / 3) third)
        (same ((3 * p + 1 + 1) / 3) third) px at_b in
        subst (λ (m : ℕ). Sums g m x) end at_c
