-- `slices::write_tree` meets its contract: the laws of Writing, at what the work buffers hold.
use native.Mathlib.Omega.{arith}
use mathlib.Core.Path.{sym}
use Rattle.bvh.proofs.slices.Writing.{nodes_most, leaves_long, rows_fit, order_fits, scannable, written}
use Rattle.bvh.proofs.slices.write_tree.Goals as goal

pub slice_bounds-write_nodes-end : goal.slice_bounds-write_nodes-end
slice_bounds-write_nodes-end c = sym (leaves_long _ _ _ _ _ _ _ c.requires)

pub write_nodes-capacity-requires : goal.write_nodes-capacity-requires
write_nodes-capacity-requires c =
    let w = c.requires in
    (rows_fit _ _ _ _ _ _ _ w, w.few, nodes_most _ _ _ _ _ _ _ w, w.nodes_room)

pub put_trees-parts-requires : goal.put_trees-parts-requires
put_trees-parts-requires c =
    let w = c.requires in
    scannable _ _ _ _ _ _ _ w _ (omega (arith, w.limit))

pub slice_bounds-write_order-end : goal.slice_bounds-write_order-end
slice_bounds-write_order-end c = sym (leaves_long _ _ _ _ _ _ _ c.requires)

pub write_order-requires : goal.write_order-requires
write_order-requires c = order_fits _ _ _ _ _ _ _ c.requires

pub returns : goal.returns
returns c =
    written _ _ _ _ _ _ _ c.requires _ _ _ _ _ c.row_box-all.ensures c.scale_of-scale.ensures c.write_nodes-capacity.ensures
    c.put_trees-parts.ensures c.write_order.ensures
