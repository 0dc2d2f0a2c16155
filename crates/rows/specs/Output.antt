-- What a build writes: node records, padding, tree records, order. Definitions only.
use Rattle.std.specs.Prelude.{ℕ, zero, suc, ◌+◌, ◌*◌, cond, List, [], ◌∷◌, ◌++◌, eqb, pos, get_or}
use Rattle.records.specs.declared.BvhNode.{BvhNode}
use Rattle.records.specs.declared.BvhTree.{BvhTree}
use Rattle.records.specs.declared.scale.Scale.{Scale}
use Rattle.records.specs.Records.{node_bytes, tree_bytes}
use Rattle.records.specs.Quantise.{quantise_of}
use Rattle.rows.specs.Rows.{Row}
use Rattle.rows.specs.Ranges.{Range}

-- Rule R11 (01, Records and ranges; bvh.rs, item_id): an inner node's id is its number of nodes. A leaf's is its first position:
-- the list place of its item at threshold 1, else the place in the leaf order. An empty leaf's is 0.
abbrev pub id_of : ℕ → List ℕ → Row → ℕ
id_of th order r = cond (eqb r.count 0) r.head (cond (eqb th 1) (get_or order r.head 0) r.head)

unfoldable pub node_of : Scale → ℕ → List ℕ → Row → BvhNode
node_of s th order r =
    record {
      min = quantise_of r.box.min s.cen s.inverse;
      max = quantise_of r.box.max s.cen s.inverse;
      item_id = pos (id_of th order r);
      item_count = pos r.count;
    }

abbrev pub nodes_bytes : Scale → ℕ → List ℕ → List Row → List ℕ
nodes_bytes s th order [] = []
nodes_bytes s th order (r ∷ rs) = node_bytes (node_of s th order r) ++ nodes_bytes s th order rs

-- Rule R12 (01, Records and ranges; bvh.rs, capacity): padding has a box of 0, id 1 and count 0.
abbrev pub pad_node : BvhNode
pad_node =
    record {
      min = record { 0 = pos 0; 1 = pos 0; 2 = pos 0 };
      max = record { 0 = pos 0; 1 = pos 0; 2 = pos 0 };
      item_id = pos 1;
      item_count = pos 0;
    }

abbrev pub pad_bytes : ℕ → List ℕ
pad_bytes zero = []
pad_bytes (suc k) = node_bytes pad_node ++ pad_bytes k

-- Rule R12: at threshold 1 the records are padded to 2 · entries + 1.
abbrev pub capacity_of : ℕ → ℕ → ℕ → ℕ
capacity_of th entries size = cond (eqb th 1) (2 * entries + 1) size

-- Rule R14: a tree record holds a box, its first node, and one past its last.
unfoldable pub tree_record : Scale → Range → BvhTree
tree_record s r =
    record {
      min = quantise_of r.box.min s.cen s.inverse;
      max = quantise_of r.box.max s.cen s.inverse;
      node_index1 = pos r.first;
      node_index2 = pos r.last;
    }

abbrev pub trees_bytes : Scale → List Range → List ℕ
trees_bytes s [] = []
trees_bytes s (r ∷ rs) = tree_bytes (tree_record s r) ++ trees_bytes s rs

-- Rule R13 (01, Records and ranges; bvh.rs, item_order): the present places rising at threshold 1, else the leaf order.
abbrev pub order_of : ℕ → List ℕ → List ℕ → List ℕ
order_of th places leaves = cond (eqb th 1) places leaves
