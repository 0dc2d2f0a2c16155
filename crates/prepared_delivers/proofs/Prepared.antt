-- Point 3 of the request for a prepared mesh, from the contracts of `prepare_bvh` and of a walk alone: an answer with a tree tells of the checks that were
-- passed and of the tree that was written, and of these Delivers speaks.
use Rattle.std.specs.Prelude.{Ok, Err, Result, ⊤}
use Prim.Native.Nat.{ℕ, ◌<◌}
use native.Mathlib.Omega.{arith}
use mathlib.Core.Bool.{Bool, true, false, cond, not, ◌||◌}
use mathlib.Core.List.{List}
use mathlib.Core.Path.{◌≡◌, refl, ap, ◌∙◌}
use lib.Dec.{eqb}
use lib.ListN.{get_or}
use Rattle.base.proofs.Truth.{both_yes}
use Rattle.base.specs.Lists.{over, one_if}
use Rattle.bvh.specs.Build.{Build, nodes_written, trees_written, order_written}
use Rattle.bvh.specs.Entry.{Outputs}
use Rattle.bvh.specs.declared.slices.BuildRefusal.TheVariants.{TooManyNodes}
use Rattle.bvh.specs.declared.slices.BuiltTree.{BuiltTree}
use Rattle.math.specs.declared.aabb.Aabb.{Aabb}
use Rattle.meshes.proofs.CheckLaws.{Sound, sound}
use Rattle.meshes.specs.Checks.{is_geometry, is_bvh, check_of}
use Rattle.meshes.specs.Meshes.{Mesh, materials_of}
use Rattle.meshes.specs.declared.GeometryLengths.{GeometryLengths}
use Rattle.meshes.specs.declared.Lengths.{Lengths}
use Rattle.meshes.specs.declared.PrepareRefusal.{PrepareRefusal}
use Rattle.meshes.specs.declared.PrepareRefusal.TheVariants.{UnknownKind}
use Rattle.prepared.specs.Answers.{Lists, BvhWork, bvh_lengths, answer_after, answer_of, bvh_answer, with_tree, BvhAnswered}
use Rattle.prepared.specs.Prepared.{prepared_of, polygons_of, rebuilds}
use Rattle.prepared.specs.Rebuilt.{entries_of8, polygons_of8}
use Rattle.prepared.specs.declared.Prepared.{Prepared}
use Rattle.prepared.specs.declared.Prepared.TheVariants.{Geometry, Bvh, Empty}
use Rattle.prepared.specs.declared.Values.{Values}
use Rattle.rebuild.specs.Rebuilding.{leaf_limit, tree_answer}
use Rattle.walk.specs.Walks.{Walk}
use Rattle.prepared_delivers.proofs.Delivers.{of_tree}
use Rattle.prepared_delivers.specs.Delivers.{WalkedOver, Delivers}

-- ---- what an answer with a tree tells

-- 1 for such an answer, and the build that it tells of
abbrev trees : Result Prepared PrepareRefusal → ℕ
trees (Ok (Geometry values counts)) = 0
trees (Ok (Bvh values x)) = 1
trees (Ok (Empty values)) = 0
trees (Err why) = 0

abbrev build_in : Result Prepared PrepareRefusal → Build
build_in (Ok (Geometry values counts)) = Err TooManyNodes
build_in (Ok (Bvh values x)) = Ok x
build_in (Ok (Empty values)) = Err TooManyNodes
build_in (Err why) = Err TooManyNodes

without_tree : (r : Result Prepared PrepareRefusal) (values : Values) (x : BuiltTree) → trees r ≡ 0 → Ok (Bvh values x) ≡ r → ⊥
without_tree r values x none e = let one : 1 ≡ trees r = ap trees e in omega (arith, none)

module _ (values : Values) (x : BuiltTree) where
  -- a test that would have led elsewhere did not hold
  past : (t : Bool) (r rest : Result Prepared PrepareRefusal) → trees r ≡ 0 → Ok (Bvh values x) ≡ cond t r rest → (t ≡ false) × (Ok (Bvh values x) ≡ rest)
  past true r rest none e = absurd (without_tree r values x none e)
  past false r rest none e = (refl, e)

  of_built : (v : Values) (y : Build) → Ok (Bvh values x) ≡ with_tree v y → Ok x ≡ y
  of_built v (Ok t) e = ap build_in e
  of_built v (Err why) e = absurd (without_tree (with_tree v (Err why)) values x refl e)

  passed : (g : Mesh) (c : Result ⊤ PrepareRefusal) → Ok (Bvh values x) ≡ answer_after g c → c ≡ Ok tt
  passed g (Ok u) e = refl
  passed g (Err why) e = absurd (without_tree (Err why) values x refl e)

record Told (g : Mesh) (l : Lengths) (x : BuiltTree) : Type 0 where
  no_geometry : is_geometry g.bound.kind ≡ false
  checked : check_of g l ≡ Ok tt
  some : eqb g.counts.polygons 0 ≡ false
  tree : Ok x ≡ tree_answer (entries_of8 g.bound g.counts.polygons g.counts.vertices g.polygons g.vertices)

told : (g : Mesh) (l : Lengths) (values : Values) (x : BuiltTree) → Ok (Bvh values x) ≡ bvh_answer g l → Told g l x
unfolding answer_of
told g l values x e =
    let own = past values x (is_geometry g.bound.kind) (Err UnknownKind) (answer_of g l) refl e in
    let is = passed values x g (check_of g l) own.1 in
    let after = own.1 ∙ ap (answer_after g) is in
    let other = past values x (is_geometry g.bound.kind) _ _ refl after in
    let full = past values x (eqb g.counts.polygons 0) _ _ refl other.1 in
    record {
      no_geometry = own.0;
      checked = is;
      some = full.0;
      tree = of_built values x (prepared_of g).values _ full.1;
    }

-- ---- so the mesh was rebuilt

other_kind : (s t : Bool) → s ≡ false → s || t ≡ true → t ≡ true
other_kind true t isnt either = absurd (let z : one_if true ≡ one_if false = ap one_if isnt in omega (arith, z))
other_kind false t isnt either = either

module _ (g : Mesh) (l : Lengths) (x : BuiltTree) (t : Told g l x) where
  fine : Sound g.bound g.counts l g.polygons (materials_of g)
  fine = sound g.bound g.counts l g.polygons (materials_of g) t.checked

  rebuilt : rebuilds g ≡ true
  rebuilt =
      both_yes (other_kind (is_geometry g.bound.kind) (is_bvh g.bound.kind) t.no_geometry fine.kind) (ap not t.some)

  nodes_are : (prepared_of g).nodes
      ≡ nodes_written (entries_of8 g.bound g.counts.polygons g.counts.vertices g.polygons g.vertices) leaf_limit
  unfolding prepared_of
  nodes_are = rw rebuilt

  trees_are : (prepared_of g).trees
      ≡ trees_written (entries_of8 g.bound g.counts.polygons g.counts.vertices g.polygons g.vertices) leaf_limit
  unfolding prepared_of
  trees_are = rw rebuilt

  order_is : (prepared_of g).order
      ≡ order_written (entries_of8 g.bound g.counts.polygons g.counts.vertices g.polygons g.vertices) leaf_limit
  unfolding prepared_of
  order_is = rw rebuilt

  polygons_are : (prepared_of g).polygons ≡ polygons_of8 g.bound g.counts.polygons g.counts.vertices g.polygons g.vertices
  unfolding prepared_of polygons_of
  polygons_are = rw rebuilt

-- ---- the statement

-- Of a mesh that `prepare_bvh` answers with a tree, and a walk over that tree's records as they were written: the walk hands out numbers in the prepared
-- list of polygons, whose records are those that were returned. What is given of the mesh is bytes.
pub prepared_delivers : (g : Mesh) (b b' : Lists) (before after : Outputs) (work : BvhWork) (others : GeometryLengths) (values : Values) (x : BuiltTree)
    → ((i : ℕ) → get_or g.polygons i 0 < 256)
    → BvhAnswered g (bvh_lengths g b before work others) (Ok (Bvh values x)) b b' before after
    → (query : Aabb) (out out' : List ℕ) (w : Walk) → WalkedOver g.counts.polygons query x after out out' w
    → Delivers g.bound g.counts.polygons g.counts.vertices g.polygons g.vertices b'.polygons query x after out out' w
prepared_delivers g b b' before after work others values x each a =
    let l = bvh_lengths g b before work others in
    let t = told g l values x a.answer in
    let s = fine g l x t in
    of_tree g.bound g.counts.polygons g.counts.vertices g.polygons g.vertices s.few.polygons_few s.enough.for_polygons each x
    before after t.tree
    (a.tree_is.nodes_are ∙ ap (λ (ys : List ℕ). over ys before.nodes) (nodes_are g l x t))
    (a.tree_is.trees_are ∙ ap (λ (ys : List ℕ). over ys before.trees) (trees_are g l x t))
    (a.tree_is.order_is ∙ ap (λ (ys : List ℕ). over ys before.order) (order_is g l x t))
    b.polygons b'.polygons
    (a.lists_are.polygons_are ∙ ap (λ (ys : List ℕ). over ys b.polygons) (polygons_are g l x t))
