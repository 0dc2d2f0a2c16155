-- Node and tree records (01, Records and ranges). Definitions only.
use Rattle.std.specs.Prelude.{ℕ, ◌+◌, List, ◌++◌, ℤ}
use Rattle.std.specs.Int.{w16}
use Rattle.std.proofs.Common.{SFits}
use Rattle.records.specs.declared.BoundVertex.{BoundVertex}
use Rattle.records.specs.declared.BvhNode.{BvhNode}
use Rattle.records.specs.declared.BvhTree.{BvhTree}
use Rattle.records.specs.Shorts.{short_bytes, short_at}

-- Rule R3 (bvh.rs, the Pod forms): a quantised point is x, y, z.
unfoldable pub vertex_bytes : BoundVertex → List ℕ
vertex_bytes v = short_bytes v.0 ++ short_bytes v.1 ++ short_bytes v.2

abbrev pub vertex_at : List ℕ → ℕ → BoundVertex
vertex_at bytes k = record { 0 = short_at bytes k; 1 = short_at bytes (k + 2); 2 = short_at bytes (k + 4) }

-- Rule R3: a box, min then max, then two numbers.
unfoldable pub boxed_bytes : BoundVertex → BoundVertex → ℤ → ℤ → List ℕ
boxed_bytes min max first second = vertex_bytes min ++ vertex_bytes max ++ short_bytes first ++ short_bytes second

-- Rule R4 (01: min, max, item id, item count; bvh.rs, BvhNode::write).
unfoldable pub node_bytes : BvhNode → List ℕ
node_bytes n = boxed_bytes n.min n.max n.item_id n.item_count

-- Rule R5 (01: a box, its first node, and one past its last; bvh.rs, BvhTree::write).
unfoldable pub tree_bytes : BvhTree → List ℕ
tree_bytes t = boxed_bytes t.min t.max t.node_index1 t.node_index2

-- Rule R4 (bvh.rs, BvhNode::read): the node that stands at k.
abbrev pub node_at : List ℕ → ℕ → BvhNode
node_at bytes k = record { min = vertex_at bytes k; max = vertex_at bytes (k + 6); item_id = short_at bytes (k + 12); item_count = short_at bytes (k + 14) }

-- Rule R5 (bvh.rs, BvhTree::read): the tree that stands at k.
abbrev pub tree_at : List ℕ → ℕ → BvhTree
tree_at bytes k = record { min = vertex_at bytes k; max = vertex_at bytes (k + 6); node_index1 = short_at bytes (k + 12); node_index2 = short_at bytes (k + 14) }

-- The fields hold i16s, as those of a record in memory do.
abbrev pub VertexFits : BoundVertex → Type 0
VertexFits v = SFits w16 v.0 × SFits w16 v.1 × SFits w16 v.2

pub record BoxedFits (min max : BoundVertex) (first second : ℤ) : Type 0 where
  pub low : VertexFits min
  pub high : VertexFits max
  pub one : SFits w16 first
  pub two : SFits w16 second

abbrev pub NodeFits : BvhNode → Type 0
NodeFits n = BoxedFits n.min n.max n.item_id n.item_count

abbrev pub TreeFits : BvhTree → Type 0
TreeFits t = BoxedFits t.min t.max t.node_index1 t.node_index2
