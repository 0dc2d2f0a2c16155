-- A triangle that is stored in the nine rows: it is read back, and every other triangle stays as it was.
use Prim.Native.Nat.{ℕ, ◌+◌, ◌*◌, ◌≤◌, ◌<◌}
use native.Mathlib.Omega.{arith}
use mathlib.Core.Path.{◌≡◌, ◌∙◌}
use mathlib.Core.List.{List}
use lib.ListN.{length, get_or, set, length-set}
use lib.Seq.{get_or-set_same, get_or-set_other}
use lib.Ieee.{Float, nan}
use borrow.Author.Count.{below_more}
use Rattle.math.specs.declared.vec3.Vec3.{Vec3}
use Rattle.rays.specs.declared.rays.Facet.{Facet}
use Rattle.rays.specs.Steps.Rows.{column_at, facet_at, facet_in, put_column, put_facet, Filled}

-- The three places of the column at m are none of those at `at`.
record Apart (n at m : ℕ) : Type 0 where
  same : m ≡ at → ⊥
  one_up : m + n ≡ at → ⊥
  two_up : m + 2 * n ≡ at → ⊥
  one_down : m ≡ at + n → ⊥
  two_down : m ≡ at + 2 * n → ⊥

-- in rows before or behind, or in the same rows elsewhere
before : (n at m : ℕ) → m + 2 * n < at → Apart n at m
before n at m h =
    record { same = λ e. omega arith; one_up = λ e. omega arith; two_up = λ e. omega arith; one_down = λ e. omega arith; two_down = λ e. omega arith }

behind : (n at m : ℕ) → at + 2 * n < m → Apart n at m
behind n at m h =
    record { same = λ e. omega arith; one_up = λ e. omega arith; two_up = λ e. omega arith; one_down = λ e. omega arith; two_down = λ e. omega arith }

beside : (n at m : ℕ) → m < at + n → at < m + n → (m ≡ at → ⊥) → Apart n at m
beside n at m h k d =
    record { same = d; one_up = λ e. omega arith; two_up = λ e. omega arith; one_down = λ e. omega arith; two_down = λ e. omega arith }

module _ (rows : List Float) (n at : ℕ) (p : Vec3) where
  pub length_column : length (put_column rows n at p) ≡ length rows
  length_column = simp length-set

  elsewhere : (m : ℕ) → (m ≡ at → ⊥) → (m ≡ at + n → ⊥) → (m ≡ at + 2 * n → ⊥) → get_or (put_column rows n at p) m nan ≡ get_or rows m nan
  elsewhere m x y z =
      get_or-set_other (set (set rows at p.x) (at + n) p.y) (at + 2 * n) m p.z nan z
      ∙ get_or-set_other (set rows at p.x) (at + n) m p.y nan y
      ∙ get_or-set_other rows at m p.x nan x

  column_kept : (m : ℕ) → Apart n at m → column_at (put_column rows n at p) n m ≡ column_at rows n m
  column_kept m a =
      let x = elsewhere m a.same a.one_down a.two_down in
      let y = elsewhere (m + n) a.one_up (λ e. a.same (omega arith)) (λ e. a.one_down (omega arith)) in
      let z = elsewhere (m + 2 * n) a.two_up (λ e. a.one_up (omega arith)) (λ e. a.same (omega arith)) in
      λ i. record { x = x i; y = y i; z = z i }

  column_there : 0 < n → at + 2 * n < length rows → column_at (put_column rows n at p) n at ≡ p
  column_there k h =
      let r = set rows at p.x in
      let s = set r (at + n) p.y in
      let nr : length r ≡ length rows = length-set rows at p.x in
      let ns : length s ≡ length rows = length-set r (at + n) p.y ∙ nr in
      let x =
      get_or-set_other s (at + 2 * n) at p.z nan (λ e. omega arith) ∙ get_or-set_other r (at + n) at p.y nan (λ e. omega arith)
      ∙ get_or-set_same rows at p.x nan (omega arith) in
      let y = get_or-set_other s (at + 2 * n) (at + n) p.z nan (λ e. omega arith) ∙ get_or-set_same r (at + n) p.y nan (omega arith) in
      let z = get_or-set_same s (at + 2 * n) p.z nan (omega arith) in
      λ i. record { x = x i; y = y i; z = z i }

module _ (rows : List Float) (n t : ℕ) (f : Facet) (room : 9 * n ≤ length rows) (in_row : t < n) where
  pub length_facet : length (put_facet rows n t f) ≡ length rows
  unfolding put_facet
  length_facet = simp length-set

  -- the column at m is kept by all three stores
  kept : (m : ℕ) → Apart n t m → Apart n (3 * n + t) m → Apart n (6 * n + t) m → column_at (put_facet rows n t f) n m ≡ column_at rows n m
  unfolding put_facet
  kept m a b c =
      column_kept (put_column (put_column rows n t f.corner) n (3 * n + t) f.side1) n (6 * n + t) f.side2 m c
      ∙ column_kept (put_column rows n t f.corner) n (3 * n + t) f.side1 m b
      ∙ column_kept rows n t f.corner m a

  pub facet_kept : (k : ℕ) → k < n → (k ≡ t → ⊥) → facet_at (put_facet rows n t f) n k ≡ facet_at rows n k
  facet_kept k h d =
      let corner = kept k (beside n t k (omega arith) (omega arith) d) (before n (3 * n + t) k (omega arith)) (before n (6 * n + t) k (omega arith)) in
      let side1 =
      kept (3 * n + k) (behind n t (3 * n + k) (omega arith)) (beside n (3 * n + t) (3 * n + k) (omega arith) (omega arith) (λ e. d (omega arith)))
      (before n (6 * n + t) (3 * n + k) (omega arith)) in
      let side2 =
      kept (6 * n + k) (behind n t (6 * n + k) (omega arith)) (behind n (3 * n + t) (6 * n + k) (omega arith))
      (beside n (6 * n + t) (6 * n + k) (omega arith) (omega arith) (λ e. d (omega arith))) in
      λ i. record { corner = corner i; side1 = side1 i; side2 = side2 i }

  pub facet_there : facet_at (put_facet rows n t f) n t ≡ f
  unfolding put_facet
  facet_there =
      let r = put_column rows n t f.corner in
      let s = put_column r n (3 * n + t) f.side1 in
      let nr : length r ≡ length rows = length_column rows n t f.corner in
      let ns : length s ≡ length rows = length_column r n (3 * n + t) f.side1 ∙ nr in
      let corner =
      column_kept s n (6 * n + t) f.side2 t (before n (6 * n + t) t (omega arith))
      ∙ column_kept r n (3 * n + t) f.side1 t (before n (3 * n + t) t (omega arith)) ∙ column_there rows n t f.corner (omega arith) (omega arith) in
      let side1 =
      column_kept s n (6 * n + t) f.side2 (3 * n + t) (before n (6 * n + t) (3 * n + t) (omega arith))
      ∙ column_there r n (3 * n + t) f.side1 (omega arith) (omega arith) in
      let side2 = column_there s n (6 * n + t) f.side2 (omega arith) (omega arith) in
      λ i. record { corner = corner i; side1 = side1 i; side2 = side2 i }

  -- one triangle more
  pub filled_more : (tri ws : List ℕ) → Filled tri n ws rows t → f ≡ facet_in tri n ws t → Filled tri n ws (put_facet rows n t f) (t + 1)
  filled_more tri ws g e =
      record {
        facets =
            below_more (λ (k : ℕ). facet_at (put_facet rows n t f) n k ≡ facet_in tri n ws k) t
            (λ k h. facet_kept k (omega arith) (λ same. omega arith) ∙ g.facets k h)
            (facet_there ∙ e);
      }
