-- The records that a build wrote, as they are read from its bytes (records' `node_at` and `tree_at`), and what it promises of them. Definitions only.
use Rattle.std.specs.Prelude.{◌≡◌, ℕ, zero, suc, ◌+◌, ◌-◌, ◌*◌, ◌<◌, ◌≤◌, Bool, true, cond, ◌&&◌, ◌||◌, List, [], ◌++◌, map, pos, ◌==◌, int_le, int_lt, nat_lt}
use mathlib.Core.List.{Memᴰ}
use Rattle.base.specs.Lists.{one_if, occurrences, up_from}
use Rattle.records.specs.Records.{node_at, tree_at}
use Rattle.records.specs.declared.BvhNode.{BvhNode}
use Rattle.records.specs.declared.BvhTree.{BvhTree}
use Rattle.bvh.specs.declared.slices.BuiltTree.{BuiltTree}
use Rattle.bvh.specs.Build.{Entries}
use Rattle.bvh.specs.Entry.{Outputs}
use Rattle.rows.specs.Positions.{item_at}
use Rattle.rows.specs.Ranges.{range_limit}
use Rattle.walk_steps.specs.Boxes.{meets}
use Rattle.walk_steps.specs.Refusals.{whole}
use Rattle.walk_steps.specs.declared.boxes.Query.{Query}

-- 01, Walk: as item count the entries at threshold 1, else the present items.
abbrev pub count_for : ℕ → ℕ → ℕ → ℕ
count_for th entries present = cond (th == 1) entries present

-- ---- the records that were written

-- node record k, and tree record j
abbrev pub node_no : Outputs → ℕ → BvhNode
node_no o k = node_at o.nodes (16 * k)

abbrev pub tree_no : Outputs → ℕ → BvhTree
tree_no o j = tree_at o.trees (16 * j)

-- Rule R16 (01, Walk: a leaf holds the items at positions id to id+count−1). An inner node's count is 0: it has none.
abbrev pub positions_in : BvhNode → List ℕ
positions_in n = up_from (whole n.item_id) (whole n.item_count)

-- Rule R16: the items at some positions, by the order list that was written.
abbrev pub items_at : ℕ → Outputs → List ℕ → List ℕ
items_at th o is = map (item_at th o.order) is

-- the items of the n node records from number k on, record after record
abbrev pub items_held : ℕ → Outputs → ℕ → ℕ → List ℕ
items_held th o k zero = []
items_held th o k (suc n) = items_at th o (positions_in (node_no o k)) ++ items_held th o (k + 1) n

-- Rule R11: a leaf's record has items, or the id 0 where no item is present; an inner node's has none, and its number of nodes as id.
abbrev pub is_leaf : BvhNode → Bool
is_leaf n = nat_lt 0 (whole n.item_count) || whole n.item_id == 0

-- 01, Walk: a range holds the nodes first to last − 1.
abbrev pub holds_node : ℕ → BvhTree → Bool
holds_node k t = int_le t.node_index1 (pos k) && int_lt (pos k) t.node_index2

-- how many of the n tree records from number j on hold node k
abbrev pub ranges_with : ℕ → Outputs → ℕ → ℕ → ℕ
ranges_with k o j zero = 0
ranges_with k o j (suc n) = one_if (holds_node k (tree_no o j)) + ranges_with k o (j + 1) n

-- ---- the build

-- A node record's id and count are not below 0, the count is at most the threshold, and a leaf's positions lie below the item count.
pub record NodeNumbers (th items : ℕ) (n : BvhNode) : Type 0 where
  pub id : ℕ
  pub count : ℕ
  pub id_is : n.item_id ≡ pos id
  pub count_is : n.item_count ≡ pos count
  pub at_most : count ≤ th
  pub inside : 0 < count → id + count ≤ items

-- A tree record's range: 0 ≤ first < last ≤ nodes, and no more nodes than the limit of a build, 127 (rule R14).
pub record RangeNumbers (nodes : ℕ) (t : BvhTree) : Type 0 where
  pub first : ℕ
  pub last : ℕ
  pub first_is : t.node_index1 ≡ pos first
  pub last_is : t.node_index2 ≡ pos last
  pub some : first < last
  pub within : last ≤ nodes
  pub at_most : last - first ≤ range_limit

-- Rule P4 (request, point 3, first sentence), of the records of a build that answered b and left these outputs.
pub record WellFormed (e : Entries) (th : ℕ) (b : BuiltTree) (after : Outputs) : Type 0 where
  -- the leaf records hold each present item exactly once, and no other at all
  pub present_once : (p : ℕ) → Memᴰ p e.places → occurrences p (items_held th after 0 b.nodes) ≡ 1
  pub only_present : (p : ℕ) → occurrences p (items_held th after 0 b.nodes) ≡ occurrences p e.places
  -- none of them more than the threshold
  pub at_most : (k : ℕ) → k < b.nodes → NodeNumbers th (count_for th e.number b.present) (node_no after k)
  -- each leaf lies in the range of exactly one tree record
  pub in_one_range : (k : ℕ) → k < b.nodes → is_leaf (node_no after k) ≡ true → ranges_with k after 0 b.trees ≡ 1
  -- no range has more than 127 nodes
  pub ranges_are : (j : ℕ) → j < b.trees → RangeNumbers b.nodes (tree_no after j)

-- ---- the walk over it

-- A position of a leaf record, one of the first `nodes`, that meets the quantised query as integers (rule W2).
pub record FromLeaf (q : Query) (nodes : ℕ) (o : Outputs) (i : ℕ) : Type 0 where
  pub number : ℕ
  pub within : number < nodes
  pub hit : meets q (node_no o number).min (node_no o number).max ≡ true
  pub low : whole (node_no o number).item_id ≤ i
  pub high : i < whole (node_no o number).item_id + whole (node_no o number).item_count
