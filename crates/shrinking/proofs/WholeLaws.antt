-- Rules S1 to S9: what rules S1 to S8 ask is there once the triangles are laid out, and what the margin or the normals leave is the whole.
use Prim.Native.Nat.{ℕ, ◌≤◌}
use native.Mathlib.Omega.{arith}
use mathlib.Core.Path.{◌≡◌, sym, ap, ◌∙◌}
use mathlib.Core.List.{List}
use lib.ListN.{length}
use lib.Ieee.{Float}
use Rattle.std.specs.Prelude.{Option, Some, None}
use Rattle.by_normals.specs.Normals.{by_normals}
use Rattle.by_normals.specs.Steps.Sums.{Placeable}
use Rattle.rays.specs.Steps.Rows.{Laid}
use Rattle.rings.specs.Meshes.{Mesh}
use Rattle.shrink.specs.Shrinking.{Shrunk}
use Rattle.shrink.specs.Steps.Work.{Shrinkable}
use Rattle.shrinking.specs.declared.whole.Geometry.{Geometry}
use Rattle.shrinking.specs.Steps.Work.{Meshed}
use Rattle.shrinking.specs.Whole.{bound_of, placed_in, shrunk_with, shrunk_of, ShrunkTo}

module _ {mesh : Mesh} {tri firsts : List ℕ} {normals olds news : List Float} {points : List ℕ} (m : Meshed mesh tri firsts normals olds news points) where
  pub shrinkable : (tri' : List ℕ) (t : ℕ) (ring : List ℕ) (ns : List Float) → length tri' ≡ length tri → Laid mesh.corners mesh.n tri' t
      → t ≤ mesh.n → 63 ≤ length ring → 192 ≤ length ns → Shrinkable mesh tri' t firsts normals ring ns olds news points
  shrinkable tri' t ring ns e laid few r s =
      let n = m.linked.few in
      record {
        linked = m.linked;
        laid = laid;
        checkable =
            record {
              old_rows = record { corners = omega (arith, m.tri_room); coordinates = omega (arith, m.olds_room); few = omega arith };
              new_rows = record { corners = omega (arith, m.tri_room); coordinates = omega (arith, m.news_room); few = omega arith };
              old_vertices = m.vertices_in;
              new_vertices = omega (arith, m.size);
              few_vertices = m.few_vertices;
            };
        size = m.size;
        firsts_room = m.firsts_room;
        normals_room = m.normals_room;
        ring_room = r;
        ns_room = s;
      }

  pub placeable : (g : Geometry) (points' : List ℕ) → length points' ≡ length points → Placeable (placed_in g mesh) mesh.n points'
  placeable g points' e =
      record { corners_in = m.linked.corners_in; few = m.linked.few; vertices_in = m.vertices_in; size = e ∙ m.size }

module _ (g : Geometry) (mesh : Mesh) {points : List ℕ} {r : Option Float} (found : Shrunk (bound_of g) mesh points r) where
  -- the whole, by the answer
  whole : (m : Option Float) → r ≡ m → shrunk_with g mesh m ≡ shrunk_of g mesh
  unfolding shrunk_of
  whole m e = ap (shrunk_with g mesh) (sym e ∙ found.answer)

  pub passed : (m : Float) → r ≡ Some m → ShrunkTo g mesh points (Some m)
  passed m e = record { answer = sym e ∙ found.answer; points_are = found.points_are m e ∙ whole (Some m) e }

  pub none_passed : (points' : List ℕ) → r ≡ None → points' ≡ by_normals (placed_in g mesh) mesh.n g.margin
      → ShrunkTo g mesh points' None
  none_passed points' e p = record { answer = sym e ∙ found.answer; points_are = p ∙ whole None e }
