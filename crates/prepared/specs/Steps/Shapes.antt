-- What the shaping of each kind asks of the slices that it is lent, and what it leaves. Definitions only.
use Rattle.std.specs.Prelude.{◌≡◌, ℕ, ◌+◌, ◌*◌, ◌≤◌, true, List, length, take, Ok}
use Rattle.base.specs.Lists.{over}
use Rattle.bvh.specs.Build as B
use Rattle.bvh.specs.Build.{Build, nodes_written, trees_written_by, order_written}
use Rattle.bvh.specs.Entry.{Outputs}
use Rattle.bvh.specs.declared.slices.BuiltTree.{BuiltTree}
use Rattle.corners.specs.Corners.{kinds_known}
use Rattle.edges.specs.Edges.{linked}
use Rattle.linking.specs.Written.{written_of}
use Rattle.math.specs.declared.vec3.Vec3.{Vec3}
use Rattle.meshes.specs.declared.Bound.{Bound}
use Rattle.octants.specs.declared.lists.OctantCounts.{OctantCounts}
use Rattle.octants.specs.Octants.{counts_of}
use Rattle.rebuild.specs.Rebuilding.{leaf_limit, tree_answer_by}
use Rattle.reorder.specs.Reordering.{in_order}
use Rattle.rows.specs.Ranges.{range_limit}
use Rattle.prepared.specs.Answers.{Hull, GeometryWork, BvhWork}
use Rattle.prepared.specs.Rebuilt.{entries_of8, order_of8, polygons_of8}
use Rattle.prepared.specs.Shrunk.{shrunk_bytes, shrunk_floats, shrunk_octant, octants_left}

-- ---- kind 4

-- p polygons of known kinds and v vertices, and room for what is written and to work in
pub record GeometryRoom (p v : ℕ) (polygons vertices out : List ℕ) (h : Hull) (w : GeometryWork) : Type 0 where
  pub few : p ≤ 32767
  pub few_vertices : v ≤ 32768
  pub known : kinds_known p polygons ≡ true
  pub records : 16 * p ≤ length polygons
  pub words : 3 * v ≤ length vertices
  pub for_out : 16 * p ≤ length out
  pub for_shrunk : 6 * v ≤ length h.shrunk
  pub for_floats : 3 * v ≤ length h.floats
  pub for_octants : 8 * v ≤ length h.octants
  pub for_entries : 7 * p + 4 * v ≤ length w.entries
  pub for_places : 3 * p + 3 * v ≤ length w.places
  pub for_temp : 3 * p + v ≤ length w.temp
  pub for_stack : 3 * p + v ≤ length w.stack
  pub for_rows : 16 * p + 8 + v ≤ length w.rows
  pub for_points : 3 * v ≤ length w.points
  pub for_centres : 4 * p ≤ length w.centres
  pub for_olds : 9 * p ≤ length w.olds
  pub for_news : 9 * p ≤ length w.news

-- The records are written and linked, the shrunk vertices stored and read back, and the octants listed.
pub record GeometryShaped (b : Bound) (p v : ℕ) (quantum : Vec3) (polygons vertices out₀ out : List ℕ) (h h' : Hull) (r : OctantCounts) : Type 0 where
  pub records_are : out ≡ over (linked p (written_of p polygons)) out₀
  pub shrunk_are : h'.shrunk ≡ over (shrunk_bytes b p v quantum polygons vertices) h.shrunk
  pub floats_are : h'.floats ≡ over (shrunk_floats b p v quantum polygons vertices) h.floats
  pub octants_are : h'.octants ≡ octants_left (shrunk_octant b p v polygons vertices) v h.octants
  pub counts_are : r ≡ counts_of (shrunk_octant b p v polygons vertices)

-- ---- kind 8

-- p polygons of known kinds with the numbers of their materials and v vertices, and room for what is written and to work in
pub record BvhRoom (p v : ℕ) (polygons numbers vertices out : List ℕ) (t : Outputs) (w : BvhWork) : Type 0 where
  pub few : p ≤ 32767
  pub few_vertices : v ≤ 32768
  pub known : kinds_known p polygons ≡ true
  pub records : 16 * p ≤ length polygons
  pub numbered : p ≤ length numbers
  pub words : 3 * v ≤ length vertices
  pub for_out : 16 * p ≤ length out
  pub for_nodes : 16 * (2 * p + 1) ≤ length t.nodes
  pub for_trees : 16 * (2 * p + 1) ≤ length t.trees
  pub for_order : p ≤ length t.order
  pub for_entries : 7 * p + 4 * v ≤ length w.entries
  pub for_places : 3 * p + 3 * v ≤ length w.places
  pub for_temp : 3 * p + v ≤ length w.temp
  pub for_stack : 3 * p + v ≤ length w.stack
  pub for_rows : 16 * p + 8 + v ≤ length w.rows
  pub for_points : 3 * v ≤ length w.points
  pub for_sorted : p ≤ length w.sorted
  pub for_centres : 4 * p ≤ length w.centres

-- The tree is written, the polygons stand in its leaf order with their links, and the materials' numbers in the same order in `sorted`. Where the tree is
-- refused nothing is written, and nothing is said of `sorted`. No range has more than `limit` nodes.
pub record BvhShapedBy (limit : ℕ) (b : Bound) (p v : ℕ) (polygons numbers vertices out₀ out : List ℕ) (t t' : Outputs) (sorted : List ℕ) (r : Build)
    : Type 0 where
  pub answer : r ≡ tree_answer_by limit (entries_of8 b p v polygons vertices)
  pub records_are : out ≡ B.kept r (polygons_of8 b p v polygons vertices) out₀
  pub nodes_are : t'.nodes ≡ B.kept r (nodes_written (entries_of8 b p v polygons vertices) leaf_limit) t.nodes
  pub trees_are : t'.trees ≡ B.kept r (trees_written_by limit (entries_of8 b p v polygons vertices) leaf_limit) t.trees
  pub order_is : t'.order ≡ B.kept r (order_written (entries_of8 b p v polygons vertices) leaf_limit) t.order
  pub numbers_are : (x : BuiltTree) → r ≡ Ok x → take p sorted ≡ in_order (order_of8 b p v polygons vertices) numbers

-- the same at the limit of a build
abbrev pub BvhShaped : Bound → ℕ → ℕ → List ℕ → List ℕ → List ℕ → List ℕ → List ℕ → Outputs → Outputs → List ℕ → Build → Type 0
BvhShaped b p v polygons numbers vertices out₀ out t t' sorted r = BvhShapedBy range_limit b p v polygons numbers vertices out₀ out t t' sorted r
