-- Rules S1 to S8: what the search asks is there once normals and first sides are written, and its answer is the answer of the whole.
use Prim.Native.Nat.{ℕ, ◌*◌}
use native.Mathlib.Omega.{arith}
use mathlib.Core.Path.{◌≡◌, sym, ap, ap₂, ◌∙◌}
use mathlib.Core.Bool.{Bool}
use mathlib.Core.List.{List}
use lib.ListN.{length}
use lib.Ieee.{Float}
use Rattle.std.specs.Prelude.{Option, Some, None}
use Rattle.math.specs.declared.aabb.Aabb.{Aabb}
use Rattle.shrink.specs.declared.whole.Bound.{Bound}
use Rattle.rays.specs.Steps.Checking.{Begun}
use Rattle.rings.specs.Meshes.{Mesh}
use Rattle.rings.specs.Steps.Stored.{Firsts, Normals}
use Rattle.shrink.specs.Clamping.{inset_of, clamped_words}
use Rattle.shrink.specs.Margins.{start_of}
use Rattle.shrink.specs.Searching.{margin_of}
use Rattle.shrink.specs.Shrinking.{shrink_margin, shrunk_words, Shrunk}
use Rattle.shrink.specs.Steps.Work.{Found, Shrinkable}
use Rattle.trial.specs.Steps.Trying.{Tryable}

pub tryable : {mesh : Mesh} {tri : List ℕ} {t : ℕ} {firsts : List ℕ} {normals : List Float} {ring : List ℕ} {ns olds news : List Float}
    {points : List ℕ} → Shrinkable mesh tri t firsts normals ring ns olds news points
    → (firsts' : List ℕ) (normals' olds' : List Float) → length firsts' ≡ length firsts → length normals' ≡ length normals → length olds' ≡ length olds
    → Firsts mesh.corners (3 * mesh.n) mesh.v firsts' → Normals mesh.corners mesh.vertices mesh.v normals' mesh.n
    → (bad : Bool) → Begun tri t mesh.vertices mesh.v olds' bad → Tryable mesh bad tri t firsts' normals' olds' ring ns news points
tryable s firsts' normals' olds' e f g first normal bad begun =
    let k = s.checkable in
    record {
      movable =
          record {
            linked = s.linked;
            vertices_in = k.old_vertices;
            few = k.few_vertices;
            firsts_in = omega (arith, s.firsts_room);
            firsts_are = first;
            normals_in = omega (arith, s.normals_room);
            normals_are = normal;
            ring_room = s.ring_room;
            normal_room = s.ns_room;
          };
      laid = s.laid;
      checkable =
          record {
            old_rows = record { corners = k.old_rows.corners; coordinates = omega (arith, k.old_rows.coordinates); few = k.old_rows.few };
            new_rows = k.new_rows;
            old_vertices = k.old_vertices;
            new_vertices = k.new_vertices;
            few_vertices = k.few_vertices;
          };
      begun = begun;
      size = s.size;
    }

module _ (bound : Bound) {mesh : Mesh} {start : Float} {points : List ℕ} {r : Option Float} (found : Found mesh start points r)
    (start_is : start ≡ start_of bound.margin bound.extent.min bound.extent.max) where
  whole : r ≡ shrink_margin bound mesh
  unfolding shrink_margin
  whole = found.answer ∙ ap (margin_of mesh) start_is

  pub none_shrunk : (points' : List ℕ) → r ≡ None → Shrunk bound mesh points' None
  none_shrunk points' e =
      record {
        answer = sym e ∙ whole;
        points_are =
            λ m p.
            let z : ◌≡◌ {A = ℕ} 0 1 = cc in
            absurd (omega arith);
      }

  clamped : (m : Float) → r ≡ Some m → (box : Aabb) → box ≡ inset_of bound.extent bound.center m → clamped_words box points mesh.v
      ≡ shrunk_words bound mesh m
  unfolding shrunk_words
  clamped m e box b = ap₂ (λ (k : Aabb) (ws : List ℕ). clamped_words k ws mesh.v) b (found.points_are m e)

  pub one_shrunk : (m : Float) → r ≡ Some m → (box : Aabb) → box ≡ inset_of bound.extent bound.center m → (points' : List ℕ) → points'
      ≡ clamped_words box points mesh.v
      → Shrunk bound mesh points' (Some m)
  one_shrunk m e box b points' w =
      record {
        answer = sym e ∙ whole;
        points_are =
            λ m' p.
            let same : m ≡ m' = cc in
            w ∙ clamped m e box b ∙ ap (shrunk_words bound mesh) same;
      }
