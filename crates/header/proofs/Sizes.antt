-- How many bytes the parts of a header have, each below 256. Assumes nothing.
use Rattle.math.specs.declared.words3.Words3.{Words3}
use Rattle.base.proofs.LittleEndian.{Bytes, joined, number_bytes, zero_bytes}
use Rattle.header.specs.Header.{node_list_bytes, point_bytes, points_bytes, tree_list_bytes, header_bytes}
use Rattle.header.specs.declared.Bvh.{Bvh}

pub node_list_bytes_lem : (h : Bvh) → Bytes 32 (node_list_bytes h)
unfolding node_list_bytes
node_list_bytes_lem h =
    joined (joined (joined (number_bytes 8 h.nodes_address) (number_bytes 4 h.nodes_count)) (number_bytes 4 h.nodes_capacity)) (zero_bytes 16)

pub point_bytes_lem : (p : Words3) → Bytes 16 (point_bytes p)
unfolding point_bytes
point_bytes_lem p = joined (joined (joined (number_bytes 4 p.x) (number_bytes 4 p.y)) (number_bytes 4 p.z)) (number_bytes 4 0xffc0_0000)

pub points_bytes_lem : (h : Bvh) → Bytes 80 (points_bytes h)
unfolding points_bytes
points_bytes_lem h =
    joined
    (joined
    (joined (joined (point_bytes_lem h.bb_min) (point_bytes_lem h.bb_max)) (point_bytes_lem h.bb_center))
    (point_bytes_lem h.quantum_inverse))
    (point_bytes_lem h.quantum)

pub tree_list_bytes_lem : (h : Bvh) → Bytes 16 (tree_list_bytes h)
unfolding tree_list_bytes
tree_list_bytes_lem h =
    joined (joined (joined (number_bytes 8 h.trees_address) (number_bytes 2 h.trees_count)) (number_bytes 2 h.trees_count)) (zero_bytes 4)

-- A header is 128 bytes.
pub header_bytes_lem : (h : Bvh) → Bytes 128 (header_bytes h)
unfolding header_bytes
header_bytes_lem h = joined (joined (node_list_bytes_lem h) (points_bytes_lem h)) (tree_list_bytes_lem h)
