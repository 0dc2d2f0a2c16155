-- `slices::plant` meets its contract: what is gathered is what grows.
use Rattle.std.specs.Prelude.{◌≤◌, length}
use mathlib.Core.Path.{sym}
use Rattle.bvh.proofs.slices.Planting.{gathered_long, grow_room, planted}
use native.Mathlib.Omega.{arith}
use Rattle.bvh.proofs.slices.plant.Goals as goal

pub slice_bounds-grow_tree-end-2 : goal.slice_bounds-grow_tree-end-2
slice_bounds-grow_tree-end-2 c =
    let fits : c.args.task.n ≤ length c.gather-k.new.places = omega (arith, c.gather-k.auto.places, c.requires.places_room) in
    sym (gathered_long _ _ _ _ c.gather-k.ensures fits)

pub grow_tree-m-requires : goal.grow_tree-m-requires
grow_tree-m-requires c =
    let fits : c.args.task.n ≤ length c.gather-k.new.places = omega (arith, c.gather-k.auto.places, c.requires.places_room) in
    let p = c.requires in (
      grow_room c.args.task _ _ _ c.gather-k.ensures fits _ _ _ _ _ p,
      omega (arith, p.entries_are, p.centres_room),
      omega (arith, p.entries_are, p.few),
    )

pub returns : goal.returns
returns c =
    let fits : c.args.task.n ≤ length c.gather-k.new.places = omega (arith, c.gather-k.auto.places, c.requires.places_room) in
    planted c.args.task _ _ _ c.gather-k.ensures fits _ _ _ c.grow_tree-m.auto.places c.grow_tree-m.ensures
