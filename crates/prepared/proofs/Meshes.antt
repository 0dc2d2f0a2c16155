-- All that a prepared mesh has, by its kind and without a choice: kind 4, kind 8 with polygons, and kind 8 without. Assumes nothing.
use Rattle.std.specs.Prelude.{◌≡◌, ℕ, Bool, true, false, cond, not, ◌&&◌, eqb, List, [], length}
use mathlib.Core.Path.{refl, ap, ap₂, ◌∙◌}
use borrow.Author.Tests.{eq-eqb, ne_eqb}
use Rattle.bvh.specs.Build.{nodes_written, trees_written, order_written}
use Rattle.edges.specs.Edges.{linked}
use Rattle.finishing.specs.Filled.{list_bytes}
use Rattle.finishing.specs.Stored.{stored_bytes, floats_of}
use Rattle.linking.specs.Written.{written_of}
use Rattle.materials.specs.Materials.{list_of, indices_of}
use Rattle.meshes.specs.declared.Frame.{Frame}
use Rattle.meshes.specs.Checks.{is_geometry}
use Rattle.meshes.specs.Meshes.{Mesh, box_of, materials_of}
use Rattle.rebuild.specs.Rebuilding.{leaf_limit}
use Rattle.vertices.specs.Vertices.{quantum_of_box}
use Rattle.prepared.specs.Prepared.{PreparedMesh, rebuilds, polygons_of, used_of, frame_for, quantum_for, prepared_of}
use Rattle.prepared.specs.Rebuilt.{entries_of8, order_of8, polygons_of8, materials_of8, tree_of8, frame_of}
use Rattle.prepared.specs.Shrunk.{shrunk_bytes, shrunk_floats, shrunk_octant}

-- Kind 4 keeps the frame that it was given, the box included: nothing is folded anew.
pub frame_as_given : (g : Mesh) → g.bound.kind ≡ 4 → frame_for g ≡ g.bound.frame
unfolding frame_for
frame_as_given g four =
    let b = g.bound in
    let p = g.counts.polygons in
    ap (λ (k : ℕ). cond (eqb k 8 && not (eqb p 0)) (frame_of (tree_of8 b p g.counts.vertices g.polygons g.vertices)) b.frame) four

-- what a mesh has, of its frame, its polygons and their materials, and with or without what only one kind has
abbrev made : Mesh → Frame → List ℕ → List ℕ → (List ℕ → List ℕ) → (List ℕ → List ℕ) → PreparedMesh
made g frame polygons ms hull tree =
    let b = g.bound in
    let p = g.counts.polygons in
    let v = g.counts.vertices in
    let q = quantum_of_box (box_of frame) in
    let e = entries_of8 b p v g.polygons g.vertices in
    record {
      values = record { frame = frame; quantum = q; materials = length (list_of ms) };
      polygons = polygons;
      list = list_bytes ms;
      indices = indices_of ms;
      stored = stored_bytes q g.vertices v;
      floats = floats_of q g.vertices v;
      shrunk = hull (shrunk_bytes b p v q g.polygons g.vertices);
      shrunk_floats = hull (shrunk_floats b p v q g.polygons g.vertices);
      octants = λ o. hull (shrunk_octant b p v g.polygons g.vertices o);
      nodes = tree (nodes_written e leaf_limit);
      trees = tree (trees_written e leaf_limit);
      order = tree (order_written e leaf_limit);
    }

abbrev all : List ℕ → List ℕ
all xs = xs

abbrev nothing : List ℕ → List ℕ
nothing xs = []

-- by the two choices
abbrev by_choice : Mesh → Bool → Bool → PreparedMesh
by_choice g four tree =
    let b = g.bound in
    let p = g.counts.polygons in
    let v = g.counts.vertices in
    made g (cond tree (frame_of (tree_of8 b p v g.polygons g.vertices)) b.frame)
    (cond tree (polygons_of8 b p v g.polygons g.vertices) (linked p (written_of p g.polygons)))
    (cond tree (materials_of8 (order_of8 b p v g.polygons g.vertices) (materials_of g)) (materials_of g))
    (λ xs. cond four xs []) (λ xs. cond tree xs [])

by_kind : (g : Mesh) → prepared_of g ≡ by_choice g (is_geometry g.bound.kind) (rebuilds g)
unfolding prepared_of polygons_of used_of frame_for quantum_for
by_kind g = refl

-- ---- the kinds

-- kind 4
abbrev pub geometry_mesh : Mesh → PreparedMesh
geometry_mesh g =
    let p = g.counts.polygons in
    made g g.bound.frame (linked p (written_of p g.polygons)) (materials_of g) all nothing

-- kind 8 with polygons
abbrev pub bvh_mesh : Mesh → PreparedMesh
bvh_mesh g =
    let b = g.bound in
    let p = g.counts.polygons in
    let v = g.counts.vertices in
    made g (frame_of (tree_of8 b p v g.polygons g.vertices)) (polygons_of8 b p v g.polygons g.vertices)
    (materials_of8 (order_of8 b p v g.polygons g.vertices) (materials_of g)) nothing all

-- kind 8 without
abbrev pub empty_mesh : Mesh → PreparedMesh
empty_mesh g =
    let p = g.counts.polygons in
    made g g.bound.frame (linked p (written_of p g.polygons)) (materials_of g) nothing nothing

not_bvh : (k n : ℕ) → k ≡ 4 → eqb k 8 && not (eqb n 0) ≡ false
not_bvh k n e = ap (λ (x : ℕ). eqb x 8 && not (eqb n 0)) e

pub geometry_is : (g : Mesh) → g.bound.kind ≡ 4 → prepared_of g ≡ geometry_mesh g
geometry_is g four =
    by_kind g
    ∙ ap₂ (by_choice g) (eq-eqb g.bound.kind 4 four) (not_bvh g.bound.kind g.counts.polygons four)

with_tree_lem : (k n : ℕ) → k ≡ 8 → (n ≡ 0 → ⊥) → eqb k 8 && not (eqb n 0) ≡ true
with_tree_lem k n e some = rw (eq-eqb k 8 e, ne_eqb n 0 some)

without_tree : (k n : ℕ) → k ≡ 8 → n ≡ 0 → eqb k 8 && not (eqb n 0) ≡ false
without_tree k n e none = rw (eq-eqb k 8 e, eq-eqb n 0 none)

not_four : (k : ℕ) → k ≡ 8 → eqb k 4 ≡ false
not_four k e = ap (λ (x : ℕ). eqb x 4) e

pub bvh_is : (g : Mesh) → g.bound.kind ≡ 8 → (g.counts.polygons ≡ 0 → ⊥) → prepared_of g ≡ bvh_mesh g
bvh_is g eight some =
    by_kind g ∙ ap₂ (by_choice g) (not_four g.bound.kind eight) (with_tree_lem g.bound.kind g.counts.polygons eight some)

pub empty_is : (g : Mesh) → g.bound.kind ≡ 8 → g.counts.polygons ≡ 0 → prepared_of g ≡ empty_mesh g
empty_is g eight none =
    by_kind g ∙ ap₂ (by_choice g) (not_four g.bound.kind eight) (without_tree g.bound.kind g.counts.polygons eight none)

-- ---- what a kind has not

-- no tree but of kind 8
module _ (g : Mesh) (other : g.bound.kind ≡ 8 → ⊥) where
  none_rebuilt : rebuilds g ≡ false
  none_rebuilt = rw (ne_eqb g.bound.kind 8 other)

  bare : prepared_of g ≡ by_choice g (is_geometry g.bound.kind) false
  bare = by_kind g ∙ ap (by_choice g (is_geometry g.bound.kind)) none_rebuilt

  pub no_nodes : (prepared_of g).nodes ≡ []
  no_nodes = ap (λ (x : PreparedMesh). x.nodes) bare

  pub no_trees : (prepared_of g).trees ≡ []
  no_trees = ap (λ (x : PreparedMesh). x.trees) bare

  pub no_order : (prepared_of g).order ≡ []
  no_order = ap (λ (x : PreparedMesh). x.order) bare

-- no shrunk vertices and no octants of kind 8
module _ (g : Mesh) (eight : g.bound.kind ≡ 8) where
  unshrunk : prepared_of g ≡ by_choice g false (rebuilds g)
  unshrunk = by_kind g ∙ ap (λ (t : Bool). by_choice g t (rebuilds g)) (not_four g.bound.kind eight)

  pub no_shrunk : (prepared_of g).shrunk ≡ []
  no_shrunk = ap (λ (x : PreparedMesh). x.shrunk) unshrunk

  pub no_floats : (prepared_of g).shrunk_floats ≡ []
  no_floats = ap (λ (x : PreparedMesh). x.shrunk_floats) unshrunk

  pub no_octants : (prepared_of g).octants ≡ (λ o. [])
  no_octants = ap (λ (x : PreparedMesh). x.octants) unshrunk
