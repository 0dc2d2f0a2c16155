-- A normal that is stored is read back, and every other stays as it was.
use mathlib.Core.Bool.{Bool, true, false, cond, ◌||◌}
use Prim.Native.Nat.{ℕ, ◌+◌, ◌*◌, ◌≤◌, ◌<◌}
use native.Mathlib.Omega.{arith}
use mathlib.Core.Path.{◌≡◌, refl, sym, ◌∙◌}
use mathlib.Core.List.{List}
use lib.ListN.{length, get_or, set, length-set}
use lib.Seq.{get_or-set_same, get_or-set_other}
use lib.Ieee.{Float, nan}
use borrow.Author.Count.{below_more}
use Rattle.math.specs.declared.vec3.Vec3.{Vec3}
use lib.Dec.{leb}
use borrow.Author.Tests.{le-leb, lt-leb}
use Rattle.points.specs.Points.{vertex_at}
use Rattle.rings.specs.Normals.{origin, normal_of, polygon_normal}
use Rattle.rings.specs.Steps.Stored.{normal_at, put_normal}

module _ (fs : List Float) (i : ℕ) (p : Vec3) where
  pub length_normal : length (put_normal fs i p) ≡ length fs
  length_normal = simp length-set

  elsewhere : (m : ℕ) → (m ≡ 3 * i → ⊥) → (m ≡ 3 * i + 1 → ⊥) → (m ≡ 3 * i + 2 → ⊥) → get_or (put_normal fs i p) m nan ≡ get_or fs m nan
  elsewhere m x y z =
      get_or-set_other (set (set fs (3 * i) p.x) (3 * i + 1) p.y) (3 * i + 2) m p.z nan z
      ∙ get_or-set_other (set fs (3 * i) p.x) (3 * i + 1) m p.y nan y
      ∙ get_or-set_other fs (3 * i) m p.x nan x

  pub normal_kept : (k : ℕ) → (k ≡ i → ⊥) → normal_at (put_normal fs i p) k ≡ normal_at fs k
  normal_kept k d =
      let x = elsewhere (3 * k) (λ e. d (omega arith)) (λ e. omega arith) (λ e. omega arith) in
      let y = elsewhere (3 * k + 1) (λ e. omega arith) (λ e. d (omega arith)) (λ e. omega arith) in
      let z = elsewhere (3 * k + 2) (λ e. omega arith) (λ e. omega arith) (λ e. d (omega arith)) in
      λ j. record { x = x j; y = y j; z = z j }

  pub normal_there : 3 * i + 3 ≤ length fs → normal_at (put_normal fs i p) i ≡ p
  normal_there h =
      let r = set fs (3 * i) p.x in
      let s = set r (3 * i + 1) p.y in
      let nr : length r ≡ length fs = length-set fs (3 * i) p.x in
      let ns : length s ≡ length fs = length-set r (3 * i + 1) p.y ∙ nr in
      let x =
      get_or-set_other s (3 * i + 2) (3 * i) p.z nan (λ e. omega arith) ∙ get_or-set_other r (3 * i + 1) (3 * i) p.y nan (λ e. omega arith)
      ∙ get_or-set_same fs (3 * i) p.x nan (omega arith) in
      let y = get_or-set_other s (3 * i + 2) (3 * i + 1) p.z nan (λ e. omega arith) ∙ get_or-set_same r (3 * i + 1) p.y nan (omega arith) in
      let z = get_or-set_same s (3 * i + 2) p.z nan (omega arith) in
      λ j. record { x = x j; y = y j; z = z j }

  -- What holds of the first i normals, and of the one that is stored behind them, holds of the first i + 1.
  pub normal_more : (want : ℕ → Vec3) → 3 * i + 3 ≤ length fs → ((k : ℕ) → k < i → normal_at fs k ≡ want k) → p ≡ want i → (k : ℕ) → k < i + 1
      → normal_at (put_normal fs i p) k ≡ want k
  normal_more want h g e =
      below_more (λ (k : ℕ). normal_at (put_normal fs i p) k ≡ want k) i (λ k l. normal_kept k (λ d. omega arith) ∙ g k l) (normal_there h ∙ e)

-- ---- rule S2 by the corners

module _ (cs ws : List ℕ) (v p : ℕ) where
  abbrev a : ℕ
  a = get_or cs (3 * p) 0

  abbrev b : ℕ
  b = get_or cs (3 * p + 1) 0

  abbrev c : ℕ
  c = get_or cs (3 * p + 2) 0

  by : (x y z : Bool) → leb v a ≡ x → leb v b ≡ y → leb v c ≡ z
      → cond (x || (y || z)) origin (normal_of (vertex_at ws a) (vertex_at ws b) (vertex_at ws c)) ≡ polygon_normal cs ws v p
  unfolding polygon_normal
  by x y z f g h = λ i. cond (sym f i || (sym g i || sym h i)) origin (normal_of (vertex_at ws a) (vertex_at ws b) (vertex_at ws c))

  pub first_missing : v ≤ get_or cs (3 * p) 0 → origin ≡ polygon_normal cs ws v p
  first_missing f = by true (leb v b) (leb v c) (le-leb v a f) refl refl

  pub second_missing : get_or cs (3 * p) 0 < v → v ≤ get_or cs (3 * p + 1) 0 → origin ≡ polygon_normal cs ws v p
  second_missing f g = by false true (leb v c) (lt-leb v a f) (le-leb v b g) refl

  pub third_missing : get_or cs (3 * p) 0 < v → get_or cs (3 * p + 1) 0 < v → v ≤ get_or cs (3 * p + 2) 0 → origin ≡ polygon_normal cs ws v p
  third_missing f g h = by false false true (lt-leb v a f) (lt-leb v b g) (le-leb v c h)

  pub all_there : get_or cs (3 * p) 0 < v → get_or cs (3 * p + 1) 0 < v → get_or cs (3 * p + 2) 0 < v
      → normal_of (vertex_at ws (get_or cs (3 * p) 0)) (vertex_at ws (get_or cs (3 * p + 1) 0)) (vertex_at ws (get_or cs (3 * p + 2) 0)) ≡ polygon_normal cs ws v p
  all_there f g h = by false false false (lt-leb v a f) (lt-leb v b g) (lt-leb v c h)
