-- How many bytes each record has, each below 256, part by part. Assumes nothing.
use lib.IntN.{ℤ}
use Rattle.float32.specs.Casts.{low16bits}
use Rattle.base.proofs.LittleEndian.{Bytes, joined, number_bytes}
use Rattle.records.specs.Shorts.{short_bytes}
use Rattle.records.specs.Records.{vertex_bytes, boxed_bytes, node_bytes, tree_bytes}
use Rattle.records.specs.declared.BoundVertex.{BoundVertex}
use Rattle.records.specs.declared.BvhNode.{BvhNode}
use Rattle.records.specs.declared.BvhTree.{BvhTree}

pub short_bytes_lem : (v : ℤ) → Bytes 2 (short_bytes v)
unfolding short_bytes
short_bytes_lem v = number_bytes 2 (low16bits v)

pub vertex_bytes_lem : (v : BoundVertex) → Bytes 6 (vertex_bytes v)
unfolding vertex_bytes
vertex_bytes_lem v = joined (joined (short_bytes_lem v.0) (short_bytes_lem v.1)) (short_bytes_lem v.2)

pub boxed_bytes_lem : (min max : BoundVertex) (first second : ℤ) → Bytes 16 (boxed_bytes min max first second)
unfolding boxed_bytes
boxed_bytes_lem min max first second =
    joined (joined (joined (vertex_bytes_lem min) (vertex_bytes_lem max)) (short_bytes_lem first)) (short_bytes_lem second)

-- A node record is 16 bytes, and so is a tree record.
pub node_bytes_lem : (n : BvhNode) → Bytes 16 (node_bytes n)
unfolding node_bytes
node_bytes_lem n = boxed_bytes_lem n.min n.max n.item_id n.item_count

pub tree_bytes_lem : (t : BvhTree) → Bytes 16 (tree_bytes t)
unfolding tree_bytes
tree_bytes_lem t = boxed_bytes_lem t.min t.max t.node_index1 t.node_index2
