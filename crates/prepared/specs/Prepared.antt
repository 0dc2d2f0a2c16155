-- Rules K5 to K7 together: all that a prepared mesh has (01, Prepare: "It returns all that the reference then holds or has added"; bounds.rs, prepare).
-- What a kind has not is empty, and its buffer keeps what it had. Definitions only.
use Rattle.std.specs.Prelude.{ℕ, Bool, cond, not, ◌&&◌, List, [], length, ◌==◌}
use Rattle.bvh.specs.Build.{nodes_written, trees_written, trees_written_by, order_written}
use Rattle.edges.specs.Edges.{linked}
use Rattle.finishing.specs.Filled.{list_bytes}
use Rattle.finishing.specs.Stored.{stored_bytes, floats_of}
use Rattle.linking.specs.Written.{written_of}
use Rattle.materials.specs.Materials.{list_of, indices_of}
use Rattle.math.specs.declared.vec3.Vec3.{Vec3}
use Rattle.meshes.specs.declared.Frame.{Frame}
use Rattle.meshes.specs.Checks.{is_geometry, is_bvh}
use Rattle.meshes.specs.Meshes.{Mesh, box_of, materials_of}
use Rattle.rebuild.specs.Rebuilding.{leaf_limit}
use Rattle.vertices.specs.Vertices.{quantum_of_box}
use Rattle.prepared.specs.declared.Values.{Values}
use Rattle.prepared.specs.Rebuilt.{entries_of8, order_of8, polygons_of8, materials_of8, tree_of8, frame_of}
use Rattle.prepared.specs.Shrunk.{shrunk_bytes, shrunk_floats, shrunk_octant}

-- Rule K7 (rebuild_bvh: "No BVH for no polygons"): the mesh gets a tree.
abbrev pub rebuilds : Mesh → Bool
rebuilds g = is_bvh g.bound.kind && not (g.counts.polygons == 0)

-- ---- polygons, their materials, and the frame

-- Rule K5: a mesh without a tree keeps the order of its polygons: its records are written (rule G12) and linked (rule E2).
unfoldable pub polygons_of : Mesh → List ℕ
unfolding polygons_of8 linked
polygons_of g =
    cond (rebuilds g) (polygons_of8 g.bound g.counts.polygons g.counts.vertices g.polygons g.vertices)
    (linked g.counts.polygons (written_of g.counts.polygons g.polygons))

-- Rule K5: the materials of the polygons, in the order in which these are written
unfoldable pub used_of : Mesh → List ℕ
unfolding materials_of8 order_of8
used_of g =
    cond (rebuilds g)
    (materials_of8 (order_of8 g.bound g.counts.polygons g.counts.vertices g.polygons g.vertices) (materials_of g)) (materials_of g)

-- Rule K5: box, centres and radius, as given where there is no tree
unfoldable pub frame_for : Mesh → Frame
unfolding frame_of tree_of8
frame_for g =
    cond (rebuilds g) (frame_of (tree_of8 g.bound g.counts.polygons g.counts.vertices g.polygons g.vertices)) g.bound.frame

-- Rule K5: the quantum of the box above (rule Q1)
unfoldable pub quantum_for : Mesh → Vec3
unfolding frame_for quantum_of_box
quantum_for g = quantum_of_box (box_of (frame_for g))

-- ---- the whole

-- All that a prepared mesh has: its values, and the contents of its lists.
pub record PreparedMesh : Type 0 where
  pub values : Values
  pub polygons : List ℕ
  pub list : List ℕ
  pub indices : List ℕ
  pub stored : List ℕ
  pub floats : List ℕ
  pub shrunk : List ℕ
  pub shrunk_floats : List ℕ
  pub octants : ℕ → List ℕ
  pub nodes : List ℕ
  pub trees : List ℕ
  pub order : List ℕ

-- what only kind 4 has, and what only a mesh with a tree has
abbrev pub of_geometry : Mesh → List ℕ → List ℕ
of_geometry g xs = cond (is_geometry g.bound.kind) xs []

abbrev pub of_tree : Mesh → List ℕ → List ℕ
of_tree g xs = cond (rebuilds g) xs []

-- Rules K5 to K7.
unfoldable pub prepared_of : Mesh → PreparedMesh
unfolding frame_for quantum_for polygons_of used_of list_bytes stored_bytes floats_of shrunk_bytes shrunk_floats shrunk_octant entries_of8
    nodes_written trees_written_by order_written
prepared_of g =
    let b = g.bound in
    let p = g.counts.polygons in
    let v = g.counts.vertices in
    let e = entries_of8 b p v g.polygons g.vertices in
    record {
      values = record { frame = frame_for g; quantum = quantum_for g; materials = length (list_of (used_of g)) };
      polygons = polygons_of g;
      list = list_bytes (used_of g);
      indices = indices_of (used_of g);
      stored = stored_bytes (quantum_for g) g.vertices v;
      floats = floats_of (quantum_for g) g.vertices v;
      shrunk = of_geometry g (shrunk_bytes b p v (quantum_for g) g.polygons g.vertices);
      shrunk_floats = of_geometry g (shrunk_floats b p v (quantum_for g) g.polygons g.vertices);
      octants = λ o. of_geometry g (shrunk_octant b p v g.polygons g.vertices o);
      nodes = of_tree g (nodes_written e leaf_limit);
      trees = of_tree g (trees_written e leaf_limit);
      order = of_tree g (order_written e leaf_limit);
    }
