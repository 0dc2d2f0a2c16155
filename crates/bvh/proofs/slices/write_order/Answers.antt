-- `slices::write_order` meets its contract: the places gathered again, or the leaf order.
use Rattle.std.specs.Prelude.{◌≡◌, length, take}
use mathlib.Core.Path.{sym}
use Rattle.bvh.proofs.slices.Planting.{gathered_below, gathered_long}
use Rattle.bvh.proofs.slices.Writing.{order_rising, order_leaves}
use native.Mathlib.Omega.{arith}
use Rattle.bvh.proofs.slices.write_order.Goals as goal

pub slice_bounds-put_order-end-then-task-eq1 : goal.slice_bounds-put_order-end-then-task-eq1
slice_bounds-put_order-end-then-task-eq1 c =
    let long : let g = c.gather-k in length (take g.result g.new.places) ≡ g.result = gathered_long _ _ _ _ c.gather-k.ensures (omega (arith, c.gather-k.auto.places, c.requires.temp_room)) in
    sym long

pub put_order-requires : goal.put_order-requires
put_order-requires c =
    let long : let g = c.gather-k in length (take g.result g.new.places) ≡ g.result = gathered_long _ _ _ _ c.gather-k.ensures (omega (arith, c.gather-k.auto.places, c.requires.temp_room)) in
    (omega (arith, c.gather-k.ensures.most, long, c.requires), gathered_below _ _ _ _ _ c.gather-k.ensures (omega (arith, c.requires.few)))

pub returns-then-task-eq1 : goal.returns-then-task-eq1
returns-then-task-eq1 c =
    order_rising _ _ _ _ _ _ c.if-task-eq1.true c.gather-k.ensures.places_are c.put_order.ensures

pub returns-else-task-eq1 : goal.returns-else-task-eq1
returns-else-task-eq1 c = order_leaves _ _ _ _ _ c.if-task-eq1.false c.put_order-else-task-eq1.ensures
