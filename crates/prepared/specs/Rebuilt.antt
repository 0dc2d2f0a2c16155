-- Rule K7 (01, Prepare: "kind 8 rebuilds, then repeats materials, quantum and edges"; bounds.rs, prepare, rebuild_bvh): what kind 8 makes of polygons,
-- step after step as in the source. That the first pass leaves no trace are laws of `rebuild`. Definitions only.
use Rattle.std.specs.Prelude.{ℕ, List, map, slice_index, to_bits}
use Rattle.std.specs.Float.{binary32}
use Rattle.bvh.specs.Build.{Entries, tree_of, built_of, order_written}
use Rattle.bvh.specs.declared.slices.BuiltTree.{BuiltTree}
use Rattle.edges.specs.Edges.{linked}
use Rattle.materials.specs.Materials.{list_of, indices_of}
use Rattle.math.specs.declared.vec3.Vec3.{Vec3}
use Rattle.math.specs.declared.words3.Words3.{Words3}
use Rattle.math.specs.Stored.{values_of, bits_of}
use Rattle.math.specs.Vec3s.{sub_of, length_of}
use Rattle.meshes.specs.declared.Bound.{Bound}
use Rattle.meshes.specs.declared.Frame.{Frame}
use Rattle.rebuild.specs.Rebuilding.{leaf_limit, polygon_entries}
use Rattle.reorder.specs.Reordering.{in_order, rebuilt_of}

-- Rule K7: the first edge pass, over the polygons as given
abbrev pub first_linked : ℕ → List ℕ → List ℕ
first_linked p polygons = linked p polygons

-- Rule K7: the tree is built over the polygons of the first pass (rule K2).
unfoldable pub entries_of8 : Bound → ℕ → ℕ → List ℕ → List ℕ → Entries
unfolding linked
entries_of8 b p v polygons vertices = polygon_entries b.transform b.center p v (first_linked p polygons) vertices

unfoldable pub order_of8 : Bound → ℕ → ℕ → List ℕ → List ℕ → List ℕ
unfolding entries_of8 order_written
order_of8 b p v polygons vertices = order_written (entries_of8 b p v polygons vertices) leaf_limit

-- Rule K7: the polygons in leaf order with their links renumbered (rules K2, K3), and then the second edge pass.
unfoldable pub polygons_of8 : Bound → ℕ → ℕ → List ℕ → List ℕ → List ℕ
unfolding linked order_of8
polygons_of8 b p v polygons vertices = linked p (rebuilt_of p (order_of8 b p v polygons vertices) (first_linked p polygons))

-- Rule K7: the materials of the polygons in leaf order: the list and the indices of the first pass, the indices in leaf order, and what each stands for.
-- A missing material is (0,0).
unfoldable pub materials_of8 : List ℕ → List ℕ → List ℕ
materials_of8 order ms = map (λ i. slice_index (list_of ms) i) (in_order order (indices_of ms))

-- the tree's values
unfoldable pub tree_of8 : Bound → ℕ → ℕ → List ℕ → List ℕ → BuiltTree
unfolding entries_of8 tree_of
tree_of8 b p v polygons vertices = let e = entries_of8 b p v polygons vertices in built_of e leaf_limit (tree_of e leaf_limit)

-- Rule K7 (rebuild_bvh: `(c.box_max - c.box_center).length()`)
unfoldable pub radius_of : Words3 → Vec3 → ℕ
radius_of corner cen = to_bits binary32 (length_of (sub_of (values_of corner) cen))

-- Rule K7 (rebuild_bvh: box_min to sphere_radius): the tree's box, its centre twice, and the distance from there to the box's greatest corner.
unfoldable pub frame_of : BuiltTree → Frame
unfolding radius_of
frame_of t =
    record {
      box_min = t.min;
      box_max = t.max;
      box_center = bits_of t.scale.cen;
      sphere_center = bits_of t.scale.cen;
      sphere_radius = radius_of t.max t.scale.cen;
    }
