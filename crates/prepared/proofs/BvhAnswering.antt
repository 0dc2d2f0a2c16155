-- What `prepare_bvh` answers of a mesh that passes the checks: a tree, none where there are no polygons, or one that has too many nodes. From the contracts of
-- its parts.
use Rattle.std.specs.Prelude.{◌≡◌, ℕ, ◌≤◌, Bool, true, false, cond, eqb, ltb, List, map, length, take, Ok, Err}
use native.Mathlib.Omega.{arith}
use mathlib.Core.Path.{refl, sym, ap, subst, ◌∙◌}
use borrow.Author.Tests.{eq-eqb, ne_eqb}
use lib.Seq.{take-take}
use Rattle.base.specs.Lists.{over}
use Rattle.bvh.specs.Build.{Build, Entries, tree_of, built_of}
use Rattle.bvh.specs.Entry.{Outputs}
use Rattle.bvh.specs.declared.slices.BuildRefusal.{BuildRefusal}
use Rattle.bvh.specs.declared.slices.BuildRefusal.TheVariants as Why
use Rattle.bvh.specs.declared.slices.BuiltTree.{BuiltTree}
use Rattle.corners.specs.Corners.{links_put}
use Rattle.edges.specs.Edges.{linked}
use Rattle.finishing.specs.Filled.{list_bytes}
use Rattle.finishing.specs.Stored.{stored_bytes, floats_of}
use Rattle.finishing.specs.Steps.Finishing.{Stored, Listed}
use Rattle.linking.specs.Written.{written_of}
use Rattle.materials.specs.Materials.{value_at, values_of, list_of, indices_of}
use Rattle.math.specs.declared.vec3.Vec3.{Vec3}
use Rattle.meshes.specs.declared.Frame.{Frame}
use Rattle.meshes.specs.declared.Lengths.{Lengths}
use Rattle.meshes.specs.declared.PrepareRefusal.TheVariants.{TooManyNodes}
use Rattle.meshes.specs.Checks.{bvh_check}
use Rattle.meshes.specs.Meshes.{Mesh, box_of, materials_of}
use Rattle.rebuild.specs.Rebuilding.{leaf_limit, tree_answer, tree_answer_by}
use Rattle.rebuild.proofs.MaterialOrder.{values_in_order}
use Rattle.reorder.specs.Reordering.{in_order}
use Rattle.rows.specs.Tree.{size}
use Rattle.vertices.specs.Vertices.{quantum_of_box}
use Rattle.prepared.specs.declared.Prepared.TheVariants.{Bvh, Empty}
use Rattle.prepared.specs.declared.Values.{Values}
use Rattle.prepared.specs.Answers.{with_tree, answer_after, Lists, bvh_answer, BvhAnswered}
use Rattle.prepared.specs.Prepared.{PreparedMesh, prepared_of}
use Rattle.prepared.specs.Rebuilt.{entries_of8, materials_of8, tree_of8, frame_of}
use Rattle.prepared.specs.Steps.Shapes.{BvhShaped}
use Rattle.prepared.proofs.Meshes.{bvh_mesh, empty_mesh, bvh_is, empty_is}
use Rattle.prepared.proofs.Answering.{bvh_decides}
use Rattle.prepared.proofs.MaterialLaws.{order, order_long, order_within, second_pass_in_order}

abbrev is_built : Build → ℕ
is_built (Ok t) = 1
is_built (Err why) = 0

abbrev tree_in : BuiltTree → Build → BuiltTree
tree_in other (Ok t) = t
tree_in other (Err why) = other

only_built : (s : Bool) (t x : BuiltTree) (why : BuildRefusal) → Ok t ≡ cond s (Err why) (Ok x) → t ≡ x
only_built true t x why h = absurd (omega (arith, ap is_built h))
only_built false t x why h = ap (tree_in t) h

-- a tree that is not refused is the definition's
tree_built : (t : BuiltTree) (e : Entries) → Ok t ≡ tree_answer e → t ≡ built_of e leaf_limit (tree_of e leaf_limit)
unfolding tree_answer_by
tree_built t e h = only_built (ltb 32767 (size (tree_of e leaf_limit))) t (built_of e leaf_limit (tree_of e leaf_limit)) Why.TooManyNodes h

module _ (g : Mesh) where
  -- The materials of the numbers in leaf order are those that the source's second pass has before it.
  sorted_materials : (sorted : List ℕ) → g.counts.polygons ≤ length g.numbers
      → take g.counts.polygons sorted ≡ in_order (order g) g.numbers
      → values_of g.counts.materials g.mats g.counts.polygons sorted ≡ materials_of8 (order g) (materials_of g)
  sorted_materials sorted room e =
      let p = g.counts.polygons in
      let m = g.counts.materials in
      ap (map (value_at m g.mats)) (sym (take-take p p sorted (omega arith)) ∙ ap (take p) e)
      ∙ values_in_order m g.mats p (order g) g.numbers (order_long g) (order_within g) room
      ∙ sym (second_pass_in_order g room)

module _ (g : Mesh) (l : Lengths) (eight : g.bound.kind ≡ 8)
    (passed : Ok tt ≡ bvh_check g.bound g.counts l g.polygons (materials_of g)) where
  abbrev e8 : Entries
  e8 = entries_of8 g.bound g.counts.polygons g.counts.vertices g.polygons g.vertices

  tree_is : (x : BuiltTree) → Ok x ≡ tree_answer e8 → x ≡ tree_of8 g.bound g.counts.polygons g.counts.vertices g.polygons g.vertices
  unfolding tree_of8
  tree_is x h = tree_built x e8 h

  -- what is stored in units of the tree's box
  by_quantum : (f : Vec3 → List ℕ → ℕ → List ℕ) (before : List ℕ) (x : BuiltTree) → Ok x ≡ tree_answer e8
      → over (f (quantum_of_box (box_of (frame_of x))) g.vertices g.counts.vertices) before
      ≡ over (f (quantum_of_box (box_of (frame_of (tree_of8 g.bound g.counts.polygons g.counts.vertices g.polygons g.vertices)))) g.vertices
      g.counts.vertices) before
  by_quantum f before x h =
      ap (λ (y : BuiltTree). over (f (quantum_of_box (box_of (frame_of y))) g.vertices g.counts.vertices) before) (tree_is x h)

  not_four : eqb g.bound.kind 4 ≡ false
  not_four = ap (λ (k : ℕ). eqb k 4) eight

  bvh_answered : (g.counts.polygons ≡ 0 → ⊥) → bvh_answer g l ≡ with_tree (prepared_of g).values (tree_answer e8)
  bvh_answered some = bvh_decides g l ∙ ap (answer_after g) (sym passed) ∙ rw (not_four, ne_eqb g.counts.polygons 0 some)

  empty_answered : g.counts.polygons ≡ 0 → bvh_answer g l ≡ Ok (Empty (prepared_of g).values)
  empty_answered none = bvh_decides g l ∙ ap (answer_after g) (sym passed) ∙ rw (not_four, eq-eqb g.counts.polygons 0 none)

  module _ (some : g.counts.polygons ≡ 0 → ⊥) where
    -- ---- too many nodes

    pub bvh_too_many : (b b' : Lists) (t t' : Outputs) (sorted : List ℕ) (why : BuildRefusal)
        → BvhShaped g.bound g.counts.polygons g.counts.vertices g.polygons g.numbers g.vertices b.polygons b'.polygons t t' sorted
        (Err why)
        → b'.list ≡ b.list → b'.indices ≡ b.indices → b'.stored ≡ b.stored → b'.floats ≡ b.floats
        → BvhAnswered g l (Err TooManyNodes) b b' t t'
    bvh_too_many b b' t t' sorted why s el ei es ef =
        record {
          answer = ap (with_tree (prepared_of g).values) s.answer ∙ sym (bvh_answered some);
          lists_are = record { list_is = el; indices_are = ei; polygons_are = s.records_are; stored_are = es; floats_are = ef };
          tree_is = record { nodes_are = s.nodes_are; trees_are = s.trees_are; order_is = s.order_is };
        }

    -- ---- a tree

    same8 : bvh_mesh g ≡ prepared_of g
    same8 = sym (bvh_is g eight some)

    pub bvh_done : (b b' : Lists) (t t' : Outputs) (sorted : List ℕ) (x : BuiltTree) (m : ℕ) → g.counts.polygons ≤ length g.numbers
        → BvhShaped g.bound g.counts.polygons g.counts.vertices g.polygons g.numbers g.vertices b.polygons b'.polygons t t' sorted
        (Ok x)
        → Listed (values_of g.counts.materials g.mats g.counts.polygons sorted) b.list b'.list b.indices b'.indices m
        → Stored (quantum_of_box (box_of (frame_of x))) g.vertices g.counts.vertices b.stored b'.stored b.floats b'.floats
        → BvhAnswered g l (Ok (Bvh (record { frame = frame_of x; quantum = quantum_of_box (box_of (frame_of x)); materials = m }) x)) b b' t t'
    bvh_done b b' t t' sorted x m room s listed stored =
        let ms = materials_of8 (order g) (materials_of g) in
        let used = sorted_materials g sorted room (s.numbers_are x refl) in
        let frame : frame_of x ≡ (prepared_of g).values.frame = ap frame_of (tree_is x s.answer) ∙ ap (λ (y : PreparedMesh). y.values.frame) same8 in
        let quantum : quantum_of_box (box_of (frame_of x)) ≡ (prepared_of g).values.quantum =
        ap (λ (f : Frame). quantum_of_box (box_of f)) (ap frame_of (tree_is x s.answer)) ∙ ap (λ (y : PreparedMesh). y.values.quantum) same8 in
        let materials : m ≡ (prepared_of g).values.materials =
        listed.counted ∙ ap (λ (xs : List ℕ). length (list_of xs)) used ∙ ap (λ (y : PreparedMesh). y.values.materials) same8 in
        record {
          answer =
              ap (λ (v : Values). Ok (Bvh v x)) (λ i. record { frame = frame i; quantum = quantum i; materials = materials i })
              ∙ ap (with_tree (prepared_of g).values) s.answer
              ∙ sym (bvh_answered some);
          lists_are =
              record {
                list_is =
                    listed.list_is ∙ ap (λ (xs : List ℕ). over (list_bytes xs) b.list) used
                    ∙ ap (λ (y : PreparedMesh). over y.list b.list) same8;
                indices_are =
                    listed.indices_are ∙ ap (λ (xs : List ℕ). over (indices_of xs) b.indices) used
                    ∙ ap (λ (y : PreparedMesh). over y.indices b.indices) same8;
                polygons_are = s.records_are ∙ ap (λ (y : PreparedMesh). over y.polygons b.polygons) same8;
                stored_are =
                    stored.stored_are ∙ by_quantum stored_bytes b.stored x s.answer
                    ∙ ap (λ (y : PreparedMesh). over y.stored b.stored) same8;
                floats_are = stored.floats_are ∙ by_quantum floats_of b.floats x s.answer ∙ ap (λ (y : PreparedMesh). over y.floats b.floats) same8;
              };
          tree_is =
              record {
                nodes_are = s.nodes_are ∙ ap (λ (y : PreparedMesh). over y.nodes t.nodes) same8;
                trees_are = s.trees_are ∙ ap (λ (y : PreparedMesh). over y.trees t.trees) same8;
                order_is = s.order_is ∙ ap (λ (y : PreparedMesh). over y.order t.order) same8;
              };
        }

    -- the same, where frame and quantum are known by their values
    pub bvh_by : (x : BuiltTree) (f : Frame) → f ≡ frame_of x → (q : Vec3) → q ≡ quantum_of_box (box_of f)
        → (b b' : Lists) (t t' : Outputs) (sorted : List ℕ) (m : ℕ) → g.counts.polygons ≤ length g.numbers
        → BvhShaped g.bound g.counts.polygons g.counts.vertices g.polygons g.numbers g.vertices b.polygons b'.polygons t t' sorted
        (Ok x)
        → Listed (values_of g.counts.materials g.mats g.counts.polygons sorted) b.list b'.list b.indices b'.indices m
        → Stored q g.vertices g.counts.vertices b.stored b'.stored b.floats b'.floats
        → BvhAnswered g l (Ok (Bvh (record { frame = f; quantum = q; materials = m }) x)) b b' t t'
    bvh_by x f ef q eq b b' t t' sorted m room s listed stored =
        let qs : q ≡ quantum_of_box (box_of (frame_of x)) = eq ∙ ap (λ (y : Frame). quantum_of_box (box_of y)) ef in
        let done = bvh_done b b' t t' sorted x m room s listed
        (subst (λ (y : Vec3). Stored y g.vertices g.counts.vertices b.stored b'.stored b.floats b'.floats) qs stored) in
        subst (λ (v : Values). BvhAnswered g l (Ok (Bvh v x)) b b' t t') (sym (λ i. record { frame = ef i; quantum = qs i; materials = m })) done

  -- ---- no polygons

  module _ (none : g.counts.polygons ≡ 0) where
    same0 : empty_mesh g ≡ prepared_of g
    same0 = sym (empty_is g eight none)

    -- no records are written
    nothing_written : (before : List ℕ) → before ≡ over (linked g.counts.polygons (written_of g.counts.polygons g.polygons)) before
    unfolding linked links_put
    nothing_written before = ap (λ (k : ℕ). over (linked k (written_of k g.polygons)) before) (sym none)

    pub bvh_empty : (b b' : Lists) (t : Outputs) (m : ℕ) → b'.polygons ≡ b.polygons
        → Listed (materials_of g) b.list b'.list b.indices b'.indices m
        → Stored (quantum_of_box (box_of g.bound.frame)) g.vertices g.counts.vertices b.stored b'.stored b.floats b'.floats
        → BvhAnswered g l (Ok (Empty (record { frame = g.bound.frame; quantum = quantum_of_box (box_of g.bound.frame); materials = m }))) b b' t t
    bvh_empty b b' t m ep listed stored =
        let values : (record { frame = g.bound.frame; quantum = quantum_of_box (box_of g.bound.frame); materials = m }) ≡ (prepared_of g).values =
        (λ i. record { frame = g.bound.frame; quantum = quantum_of_box (box_of g.bound.frame); materials = listed.counted i })
        ∙ ap (λ (x : PreparedMesh). x.values) same0 in
        record {
          answer = ap (λ (v : Values). Ok (Empty v)) values ∙ sym (empty_answered none);
          lists_are =
              record {
                list_is = listed.list_is ∙ ap (λ (x : PreparedMesh). over x.list b.list) same0;
                indices_are = listed.indices_are ∙ ap (λ (x : PreparedMesh). over x.indices b.indices) same0;
                polygons_are = ep ∙ nothing_written b.polygons ∙ ap (λ (x : PreparedMesh). over x.polygons b.polygons) same0;
                stored_are = stored.stored_are ∙ ap (λ (x : PreparedMesh). over x.stored b.stored) same0;
                floats_are = stored.floats_are ∙ ap (λ (x : PreparedMesh). over x.floats b.floats) same0;
              };
          tree_is =
              record {
                nodes_are = ap (λ (x : PreparedMesh). over x.nodes t.nodes) same0;
                trees_are = ap (λ (x : PreparedMesh). over x.trees t.trees) same0;
                order_is = ap (λ (x : PreparedMesh). over x.order t.order) same0;
              };
        }

    pub empty_by : (q : Vec3) → q ≡ quantum_of_box (box_of g.bound.frame) → (b b' : Lists) (t : Outputs) (m : ℕ) → b'.polygons ≡ b.polygons
        → Listed (materials_of g) b.list b'.list b.indices b'.indices m
        → Stored q g.vertices g.counts.vertices b.stored b'.stored b.floats b'.floats
        → BvhAnswered g l (Ok (Empty (record { frame = g.bound.frame; quantum = q; materials = m }))) b b' t t
    empty_by q e b b' t m ep listed stored =
        subst (λ (x : Vec3). BvhAnswered g l (Ok (Empty (record { frame = g.bound.frame; quantum = x; materials = m }))) b b' t t) (sym e)
        (bvh_empty b b' t m ep listed
        (subst (λ (x : Vec3). Stored x g.vertices g.counts.vertices b.stored b'.stored b.floats b'.floats) e stored))
