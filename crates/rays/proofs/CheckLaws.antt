-- Rule S6 at one vertex, by what the code finds: it did not move, or so many triangles are hit.
use Prim.Native.Nat.{ℕ, zero, suc, ◌+◌, ◌*◌, ◌≤◌}
use native.Mathlib.Omega.{arith}
use mathlib.Core.Path.{◌≡◌, refl, sym, ap, ap₂, ◌∙◌}
use mathlib.Core.Bool.{Bool, true, false, not, ◌&&◌, ◌||◌}
use mathlib.Core.List.{List}
use lib.Dec.{eqb, ltb, leb}
use lib.ListN.{length, get_or}
use lib.Ieee.{Float, eq}
use borrow.Author.Tests.{lt-ltb, ne_eqb, leb-false, not-false}
use Rattle.math.specs.declared.vec3.Vec3.{Vec3}
use Rattle.rays.specs.declared.rays.Ray.{Ray}
use Rattle.rays.specs.declared.rays.Facet.{Facet}
use Rattle.rays.specs.Steps.Counting.{none_to}
use Rattle.points.specs.Points.{vertex_at}
use Rattle.rays.specs.Rays.{naught, hits}
use Rattle.rays.specs.Steps.Rows.{InRows, Filled, Fillable, own_in, struck, hits_in}
use Rattle.rays.specs.Checks.{way_back}
use Rattle.rays.specs.Steps.Checking.{on_the_way, missing_in, fails_in, stopped_in, Checkable, Ready}
use Rattle.rays.proofs.CountLaws.{zero_sum, count_zero, count_same, none_at}

some_by_zero : (m : ℕ) → ltb 0 m ≡ not (eqb m 0)
some_by_zero zero = refl
some_by_zero (suc m) = lt-ltb 0 (suc m) (omega arith) ∙ sym (ap not (ne_eqb (suc m) 0 (λ e. omega arith)))

either : (a b : Bool) → not (a && b) ≡ not a || not b
either true b = refl
either false b = refl

-- no hit in filled rows: no triangle is on the way
none_on_the_way : (tri : List ℕ) (n : ℕ) (ws : List ℕ) (rows : List Float) (i : ℕ) (ray : Ray) → Filled tri n ws rows n
    → eqb (hits_in tri rows n i ray) 0 ≡ none_to n (on_the_way tri n ws i ray)
none_on_the_way tri n ws rows i ray g =
    ap (λ (k : ℕ). eqb k 0) (count_same n (struck tri rows n i ray) (on_the_way tri n ws i ray)
    (λ t h. ap (λ (f : Facet). hits ray f && not (own_in tri n i t)) (g.facets t h)))
    ∙ count_zero n (on_the_way tri n ws i ray)

module _ (tri : List ℕ) (n : ℕ) (old new : List ℕ) (i : ℕ) (ray : Ray) (way : ray ≡ way_back (vertex_at old i) (vertex_at new i)) where
  by : (b : Bool) → eq ray.length naught ≡ b
      → not b && (not (none_to n (on_the_way tri n old i ray)) || not (none_to n (on_the_way tri n new i ray))) ≡ fails_in tri n old new i
  unfolding fails_in
  by b e =
      ap (λ (s : Bool). not s && (not (none_to n (on_the_way tri n old i ray)) || not (none_to n (on_the_way tri n new i ray)))) (sym e)
      ∙ ap (λ (r : Ray). not (eq r.length naught) && (not (none_to n (on_the_way tri n old i r)) || not (none_to n (on_the_way tri n new i r)))) way

  pub unmoved : eq ray.length naught ≡ true → false ≡ fails_in tri n old new i
  unmoved e = by true e

  pub by_hits : eq ray.length naught ≡ false → (olds news : List Float) → Filled tri n old olds n → Filled tri n new news n → (a b : ℕ)
      → a ≡ hits_in tri olds n i ray → b ≡ hits_in tri news n i ray → ltb 0 (a + b) ≡ fails_in tri n old new i
  by_hits moved olds news g h a b x y =
      let p = ap (λ (k : ℕ). eqb k 0) x ∙ none_on_the_way tri n old olds i ray g in
      let q = ap (λ (k : ℕ). eqb k 0) y ∙ none_on_the_way tri n new news i ray h in
      some_by_zero (a + b)
      ∙ ap not (zero_sum a b ∙ ap₂ (λ (s t : Bool). s && t) p q)
      ∙ either (none_to n (on_the_way tri n old i ray)) (none_to n (on_the_way tri n new i ray))
      ∙ by false moved

module _ (tri : List ℕ) (n : ℕ) (old : List ℕ) (shrunk : Vec3) (i : ℕ) (ray : Ray) (way : ray ≡ way_back (vertex_at old i) shrunk) where
  as_it_was : (b : Bool) → eq ray.length naught ≡ b → not b && not (none_to n (on_the_way tri n old i ray)) ≡ stopped_in tri n old shrunk i
  unfolding stopped_in
  as_it_was b e =
      ap (λ (s : Bool). not s && not (none_to n (on_the_way tri n old i ray))) (sym e)
      ∙ ap (λ (r : Ray). not (eq r.length naught) && not (none_to n (on_the_way tri n old i r))) way

  pub unstopped : eq ray.length naught ≡ true → false ≡ stopped_in tri n old shrunk i
  unstopped e = as_it_was true e

  pub stopped_by_hits : eq ray.length naught ≡ false → (olds : List Float) → Filled tri n old olds n → (a : ℕ) → a ≡ hits_in tri olds n i ray
      → ltb 0 a ≡ stopped_in tri n old shrunk i
  stopped_by_hits moved olds g a x =
      some_by_zero a ∙ ap not (ap (λ (k : ℕ). eqb k 0) x ∙ none_on_the_way tri n old olds i ray g) ∙ as_it_was false moved

-- where no corner is missing the rows can be filled
pub fillable : (tri : List ℕ) (n v : ℕ) (ws : List ℕ) (rows : List Float) → missing_in tri n v ≡ false → InRows tri rows n → 3 * v ≤ length ws
    → Fillable tri n ws rows
fillable tri n v ws rows e r h =
    let none = not-false (none_to (3 * n) (λ k. leb v (get_or tri k 0))) e in
    record { rows_in = r; v = v; vertices_in = h; inside = λ k l. leb-false v (get_or tri k 0) (none_at (3 * n) (λ k. leb v (get_or tri k 0)) none k l) }

-- once the shrunk triangles stand in their rows too
pub refilled : {tri : List ℕ} {n : ℕ} {old new : List ℕ} {v : ℕ} {rows rows' : List Float} → Checkable tri n old new v rows rows'
    → Filled tri n old rows n → (r : List Float) → length r ≡ length rows' → Filled tri n new r n → Ready tri n old new v rows r
refilled lent f r e g =
    let in_rows = lent.new_rows in
    record {
      lent =
          record {
            old_rows = lent.old_rows;
            new_rows = record { corners = in_rows.corners; coordinates = omega (arith, in_rows.coordinates); few = in_rows.few };
            old_vertices = lent.old_vertices;
            new_vertices = lent.new_vertices;
            few_vertices = lent.few_vertices;
          };
      old_filled = f;
      new_filled = g;
    }
