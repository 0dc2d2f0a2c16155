-- What the two entry points of prepare answer: a check that fails, a mesh of kind 4, and one of kind 8, with a tree, without one, or with one that has
-- too many nodes. From the contracts of their parts.
use Rattle.std.specs.Prelude.{◌≡◌, ℕ, Bool, true, false, cond, Result, Ok, Err, ⊤}
use mathlib.Core.Path.{refl, sym, ap, ap₂, subst, ◌∙◌}
use borrow.Author.Tests.{eq-eqb}
use Rattle.base.specs.Lists.{over}
use Rattle.bvh.specs.Entry.{Outputs}
use Rattle.finishing.specs.Steps.Finishing.{Stored, Listed}
use Rattle.math.specs.declared.vec3.Vec3.{Vec3}
use Rattle.meshes.specs.declared.Lengths.{Lengths}
use Rattle.meshes.specs.declared.PrepareRefusal.{PrepareRefusal}
use Rattle.meshes.specs.declared.PrepareRefusal.TheVariants.{UnknownKind}
use Rattle.meshes.specs.Checks.{is_geometry, is_bvh, check_in, geometry_check, bvh_check}
use Rattle.meshes.specs.Meshes.{Mesh, box_of, materials_of}
use Rattle.octants.specs.declared.lists.OctantCounts.{OctantCounts}
use Rattle.octants.specs.Octants.{counts_of}
use Rattle.vertices.specs.Vertices.{quantum_of_box}
use Rattle.prepared.specs.declared.Prepared.TheVariants.{Geometry}
use Rattle.prepared.specs.declared.Values.{Values}
use Rattle.prepared.specs.Answers.{answer_after, answer_of, Lists, Hull, geometry_answer, bvh_answer, GeometryAnswered, BvhAnswered}
use Rattle.prepared.specs.Prepared.{PreparedMesh, prepared_of}
use Rattle.prepared.specs.Shrunk.{octants_left}
use Rattle.prepared.specs.Steps.Shapes.{GeometryShaped}
use Rattle.prepared.proofs.Meshes.{geometry_mesh, geometry_is}

-- ---- the check decides

either : (g : Mesh) (t : Bool) (x : Result ⊤ PrepareRefusal) → cond t (Err UnknownKind) (answer_after g x) ≡ answer_after g (cond t (Err UnknownKind) x)
either g true x = refl
either g false x = refl

module _ (g : Mesh) (l : Lengths) where
  abbrev geometry_checked : Result ⊤ PrepareRefusal
  geometry_checked = geometry_check g.bound g.counts l g.polygons (materials_of g)

  abbrev bvh_checked : Result ⊤ PrepareRefusal
  bvh_checked = bvh_check g.bound g.counts l g.polygons (materials_of g)

  pub geometry_decides : geometry_answer g l ≡ answer_after g (geometry_check g.bound g.counts l g.polygons (materials_of g))
  unfolding answer_of geometry_check
  geometry_decides = either g (is_bvh g.bound.kind) (check_in g.bound g.counts l g.polygons (materials_of g))

  pub bvh_decides : bvh_answer g l ≡ answer_after g (bvh_check g.bound g.counts l g.polygons (materials_of g))
  unfolding answer_of bvh_check
  bvh_decides = either g (is_geometry g.bound.kind) (check_in g.bound g.counts l g.polygons (materials_of g))

  -- ---- a check that fails

  pub geometry_refused : (b : Lists) (h : Hull) (why : PrepareRefusal) → Err why ≡ geometry_check g.bound g.counts l g.polygons (materials_of g)
      → GeometryAnswered g l (Err why) b b h h
  geometry_refused b h why e =
      record {
        answer = sym (geometry_decides ∙ ap (answer_after g) (sym e));
        lists_are = record { list_is = refl; indices_are = refl; polygons_are = refl; stored_are = refl; floats_are = refl };
        hull_is = record { shrunk_are = refl; floats_are = refl; octants_are = refl };
      }

  pub bvh_refused : (b : Lists) (t : Outputs) (why : PrepareRefusal) → Err why ≡ bvh_check g.bound g.counts l g.polygons (materials_of g)
      → BvhAnswered g l (Err why) b b t t
  bvh_refused b t why e =
      record {
        answer = sym (bvh_decides ∙ ap (answer_after g) (sym e));
        lists_are = record { list_is = refl; indices_are = refl; polygons_are = refl; stored_are = refl; floats_are = refl };
        tree_is = record { nodes_are = refl; trees_are = refl; order_is = refl };
      }

-- ---- kind 4

module _ (g : Mesh) (l : Lengths) (four : g.bound.kind ≡ 4)
    (passed : Ok tt ≡ geometry_check g.bound g.counts l g.polygons (materials_of g)) where
  abbrev whole : PreparedMesh
  whole = geometry_mesh g

  same : geometry_mesh g ≡ prepared_of g
  same = sym (geometry_is g four)

  geometry_answered : geometry_answer g l ≡ Ok (Geometry (prepared_of g).values (counts_of (prepared_of g).octants))
  geometry_answered = geometry_decides g l ∙ ap (answer_after g) (sym passed) ∙ rw (eq-eqb g.bound.kind 4 four)

  pub geometry_done : (b b' : Lists) (h h' : Hull) (counts : OctantCounts) (m : ℕ)
      → GeometryShaped g.bound g.counts.polygons g.counts.vertices (quantum_of_box (box_of g.bound.frame)) g.polygons g.vertices
      b.polygons b'.polygons h h' counts
      → Listed (materials_of g) b.list b'.list b.indices b'.indices m
      → Stored (quantum_of_box (box_of g.bound.frame)) g.vertices g.counts.vertices b.stored b'.stored b.floats b'.floats
      → GeometryAnswered g l
      (Ok (Geometry (record { frame = g.bound.frame; quantum = quantum_of_box (box_of g.bound.frame); materials = m }) counts)) b b' h h'
  geometry_done b b' h h' counts m shaped listed stored =
      let values : (record { frame = g.bound.frame; quantum = quantum_of_box (box_of g.bound.frame); materials = m }) ≡ (prepared_of g).values =
      (λ i. record { frame = g.bound.frame; quantum = quantum_of_box (box_of g.bound.frame); materials = listed.counted i })
      ∙ ap (λ (x : PreparedMesh). x.values) same in
      record {
        answer =
            ap₂ (λ (v : Values) (o : OctantCounts). Ok (Geometry v o)) values (shaped.counts_are ∙ ap (λ (x : PreparedMesh). counts_of x.octants) same) ∙ sym geometry_answered;
        lists_are =
            record {
              list_is = listed.list_is ∙ ap (λ (x : PreparedMesh). over x.list b.list) same;
              indices_are = listed.indices_are ∙ ap (λ (x : PreparedMesh). over x.indices b.indices) same;
              polygons_are = shaped.records_are ∙ ap (λ (x : PreparedMesh). over x.polygons b.polygons) same;
              stored_are = stored.stored_are ∙ ap (λ (x : PreparedMesh). over x.stored b.stored) same;
              floats_are = stored.floats_are ∙ ap (λ (x : PreparedMesh). over x.floats b.floats) same;
            };
        hull_is =
            record {
              shrunk_are = shaped.shrunk_are ∙ ap (λ (x : PreparedMesh). over x.shrunk h.shrunk) same;
              floats_are = shaped.floats_are ∙ ap (λ (x : PreparedMesh). over x.shrunk_floats h.floats) same;
              octants_are = shaped.octants_are ∙ ap (λ (x : PreparedMesh). octants_left x.octants g.counts.vertices h.octants) same;
            };
      }

  -- the same, where the quantum is known by its value
  pub geometry_by : (q : Vec3) → q ≡ quantum_of_box (box_of g.bound.frame) → (b b' : Lists) (h h' : Hull) (counts : OctantCounts) (m : ℕ)
      → GeometryShaped g.bound g.counts.polygons g.counts.vertices q g.polygons g.vertices b.polygons b'.polygons h h' counts
      → Listed (materials_of g) b.list b'.list b.indices b'.indices m
      → Stored q g.vertices g.counts.vertices b.stored b'.stored b.floats b'.floats
      → GeometryAnswered g l (Ok (Geometry (record { frame = g.bound.frame; quantum = q; materials = m }) counts)) b b' h h'
  geometry_by q e b b' h h' counts m =
      subst
      (λ (x : Vec3). GeometryShaped g.bound g.counts.polygons g.counts.vertices x g.polygons g.vertices b.polygons b'.polygons h h'
      counts
      → Listed (materials_of g) b.list b'.list b.indices b'.indices m
      → Stored x g.vertices g.counts.vertices b.stored b'.stored b.floats b'.floats
      → GeometryAnswered g l (Ok (Geometry (record { frame = g.bound.frame; quantum = x; materials = m }) counts)) b b' h h')
      (sym e) (geometry_done b b' h h' counts m)
