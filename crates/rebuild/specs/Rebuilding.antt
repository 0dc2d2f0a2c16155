-- The tree over the polygons of a mesh, and the polygons in the order of its leaves (01, Polygons: `rebuild_bvh`). Definitions only.
use Rattle.std.specs.Prelude.{◌≡◌, ℕ, cond, List, nat_lt, Ok, Err}
use Rattle.bvh.specs.Build.{Build, Entries, tree_of, built_by, kept, order_written}
use Rattle.bvh.specs.Entry.{Outputs, entries_in, AnsweredBy}
use Rattle.bvh.specs.declared.slices.BuildRefusal.TheVariants.{TooManyNodes}
use Rattle.bvh.specs.declared.slices.Lengths.{Lengths}
use Rattle.math.specs.declared.mat4.Mat4.{Mat4}
use Rattle.math.specs.declared.vec3.Vec3.{Vec3}
use Rattle.points.specs.Points.{positions_of}
use Rattle.polygon_items.specs.Items.{items_of}
use Rattle.reorder.specs.Reordering.{rebuilt_of}
use Rattle.rows.specs.Ranges.{range_limit}
use Rattle.rows.specs.Tree.{size}

-- Rule K2 (01: "threshold 4"; bounds.rs, rebuild_bvh): a leaf has at most so many polygons.
abbrev pub leaf_limit : ℕ
leaf_limit = 4

-- Rule K2 (bounds.rs, rebuild_bvh: items): the entries of p polygons, each with its box over the v vertices where they stand (rules G11 and K1).
abbrev pub polygon_entries : Mat4 → Vec3 → ℕ → ℕ → List ℕ → List ℕ → Entries
polygon_entries transform center p v bytes vertices = entries_in p (items_of p bytes (positions_of transform center vertices v))

-- Rule K2 (01, Build, 4): what a build answers where no list is over its limit and no buffer too short, at a limit of nodes a range, and at that of a build.
unfoldable pub tree_answer_by : ℕ → Entries → Build
tree_answer_by limit e =
    let t = tree_of e leaf_limit in
    cond (nat_lt 32767 (size t)) (Err TooManyNodes) (Ok (built_by limit e leaf_limit t))

abbrev pub tree_answer : Entries → Build
tree_answer e = tree_answer_by range_limit e

-- Rules K2 and K3: what a rebuild of the p polygons of `bytes` promises, over their entries e: the answer and the outputs of the build, and the
-- records in the order of the leaves; on a refusal what was there. No range has more than `limit` nodes.
pub record Rebuilt (limit : ℕ) (e : Entries) (p : ℕ) (bytes : List ℕ) (l : Lengths) (r : Build) (before after : Outputs) (out out' : List ℕ) : Type 0 where
  pub built : AnsweredBy limit e leaf_limit l r before after
  pub answer : r ≡ tree_answer_by limit e
  pub records_are : out' ≡ kept r (rebuilt_of p (order_written e leaf_limit) bytes) out
