-- A trial leaves what the next one asks; and its answer by what was found.
use Prim.Native.Nat.{ℕ, ◌*◌, ◌<◌}
use native.Mathlib.Omega.{arith}
use mathlib.Core.Bool.{Bool, true, false}
use mathlib.Core.Path.{◌≡◌, refl, sym, ap, subst, ◌∙◌}
use mathlib.Core.List.{List}
use lib.ListN.{length}
use lib.Seq.{sets}
use lib.Ieee.{Float, neg}
use Rattle.math.specs.declared.vec3.Vec3.{Vec3}
use Rattle.rays.specs.Checks.{passes}
use Rattle.rays.specs.Steps.Checking.{Begun, Checkable, Stoppable, stopped_in}
use Rattle.rays.specs.Steps.Rows.{Laid}
use Rattle.rays.proofs.SomeLaws.{passes_unmoved, stopped_passes_not}
use Rattle.points.specs.Points.{vertex_at, words_of}
use Rattle.rings.specs.Meshes.{Mesh, shrunk_at, by_margin}
use Rattle.rings.proofs.VertexLaws.{movable_again}
use Rattle.trial.specs.Trials.{passes_at}
use Rattle.trial.proofs.StayLaws.{stored_there}
use Rattle.trial.specs.Steps.Trying.{OneTryable, Tryable, Tried, Stayed}

module _ {mesh : Mesh} {bad : Bool} {tri : List ℕ} {t : ℕ} {firsts : List ℕ} {normals olds : List Float} {ring : List ℕ} {ns news : List Float}
    {points : List ℕ} (s : Tryable mesh bad tri t firsts normals olds ring ns news points) where
  pub tryable_again : (ring' : List ℕ) (ns' news' : List Float) (points' : List ℕ) → length ring' ≡ length ring → length ns' ≡ length ns
      → length news' ≡ length news → length points' ≡ length points → Tryable mesh bad tri t firsts normals olds ring' ns' news' points'
  tryable_again ring' ns' news' points' a b c d =
      let k = s.checkable in
      record {
        movable = movable_again s.movable ring' ns' a b;
        laid = s.laid;
        checkable =
            record {
              old_rows = k.old_rows;
              new_rows = record { corners = k.new_rows.corners; coordinates = omega (arith, k.new_rows.coordinates); few = k.new_rows.few };
              old_vertices = k.old_vertices;
              new_vertices = omega (arith, k.new_vertices);
              few_vertices = k.few_vertices;
            };
        begun = s.begun;
        size = d ∙ s.size;
      }

  -- with a corner missing a margin passes where it moves no vertex
  pub by_staying : bad ≡ true → (margin : Float) (points' : List ℕ) (r : Bool) → Stayed mesh margin points' r → Tried mesh margin points' r
  by_staying e margin points' r stayed =
      record {
        answer =
            stayed.answer
            ∙ passes_unmoved s.laid mesh.vertices (by_margin mesh margin) mesh.v (sym s.begun.answer ∙ e);
        points_are = stayed.points_are;
      }

  -- with none missing the check decides; it asks no more of the points than their length
  pub checkable_at : bad ≡ false → (points' : List ℕ) → length points' ≡ length points
      → (Checkable tri t mesh.vertices points' mesh.v olds news) × (Begun tri t mesh.vertices mesh.v olds false)
  checkable_at e points' d =
      let k = s.checkable in (
        record {
          old_rows = k.old_rows;
          new_rows = k.new_rows;
          old_vertices = k.old_vertices;
          new_vertices = omega (arith, k.new_vertices);
          few_vertices = k.few_vertices;
        },
        subst (Begun tri t mesh.vertices mesh.v olds) e s.begun,
      )

  pub by_check : (margin : Float) (points' : List ℕ) (r : Bool) → points' ≡ by_margin mesh margin
      → ((cs : List ℕ) (n : ℕ) → Laid cs n tri t → r ≡ passes cs n mesh.vertices points' mesh.v) → Tried mesh margin points' r
  by_check margin points' r e checked =
      record {
        answer =
            checked mesh.corners mesh.n s.laid
            ∙ ap (λ (ps : List ℕ). passes mesh.corners mesh.n mesh.vertices ps mesh.v) e;
        points_are = λ _. e;
      }

  -- what one vertex alone asks
  pub alone : bad ≡ false → OneTryable mesh tri t firsts normals olds ring ns points
  alone e =
      record {
        movable = s.movable;
        laid = s.laid;
        rows = s.checkable.old_rows;
        begun = subst (Begun tri t mesh.vertices mesh.v olds) e s.begun;
        size = s.size;
      }

-- ---- one vertex that is moved and checked alone

module _ {mesh : Mesh} {tri : List ℕ} {t : ℕ} {firsts : List ℕ} {normals olds : List Float} {ring : List ℕ} {ns : List Float} {points : List ℕ}
    (s : OneTryable mesh tri t firsts normals olds ring ns points) where
  pub stoppable : (points' : List ℕ) → length points' ≡ length points → Stoppable tri t mesh.vertices points' mesh.v olds
  stoppable points' e =
      record {
        old_rows = s.rows;
        old_vertices = s.movable.vertices_in;
        new_vertices = omega (arith, s.size);
        few_vertices = s.movable.few;
        old_filled = s.begun.filled refl;
      }

  -- the point that was stored is the vertex, moved: if a triangle as it was is on its way, the margin does not pass
  pub one_stops : (margin : Float) (i : ℕ) → i < mesh.v → (p : Vec3) → p ≡ shrunk_at mesh (neg margin) i → (points' : List ℕ)
      → points' ≡ sets points (3 * i) (words_of p) → (r : Bool) → r ≡ stopped_in tri t mesh.vertices (vertex_at points' i) i → r ≡ true
      → passes_at mesh margin ≡ false
  one_stops margin i h p p_is points' put r r-is e =
      let there : vertex_at points' i ≡ vertex_at (by_margin mesh margin) i =
      ap (λ (ws : List ℕ). vertex_at ws i) (put ∙ ap (λ (q : Vec3). sets points (3 * i) (words_of q)) p_is)
      ∙ stored_there mesh margin points i h (omega (arith, s.size)) in
      stopped_passes_not s.laid mesh.vertices (by_margin mesh margin) mesh.v (sym s.begun.answer) i h
      (ap (λ (q : Vec3). stopped_in tri t mesh.vertices q i) (sym there) ∙ sym r-is ∙ e)
