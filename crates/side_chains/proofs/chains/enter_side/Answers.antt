-- `enter_side`: a side that is there goes before those behind it that have its lower corner.
use Rattle.side_chains.proofs.chains.Entering.{skipped, to_in, both_small, low_as, packed_fits, entered_as}
use native.Mathlib.Omega.{arith}
use Rattle.side_chains.proofs.chains.enter_side.Goals as goal

pub offset_bounds-corners-to : goal.offset_bounds-corners-to
offset_bounds-corners-to c =
    let p = c.requires in omega (arith, to_in _ _ _ _ _ p.0 p.1 p.2 c.if-a-ne-NONE.true)

pub bounds-corners-to : goal.bounds-corners-to
bounds-corners-to c =
    let p = c.requires in to_in _ _ _ _ _ p.0 p.1 p.2 c.if-a-ne-NONE.true

pub lower-low-requires : goal.lower-low-requires
lower-low-requires c =
    let p = c.requires in both_small _ _ _ _ _ p.0 p.1 p.2 c.if-a-ne-NONE.true

pub higher-requires : goal.higher-requires
higher-requires c =
    let p = c.requires in both_small _ _ _ _ _ p.0 p.1 p.2 c.if-a-ne-NONE.true

pub bounds-heads-low : goal.bounds-heads-low
bounds-heads-low c =
    let p = c.requires in low_as _ _ _ _ _ p.0 p.1 p.2 c.if-a-ne-NONE.true p.3 _ c.lower-low.ensures

pub overflow_add-nexts : goal.overflow_add-nexts
overflow_add-nexts c =
    let p = c.requires in
    let low = c.lower-low.ensures in
    omega (arith, packed_fits _ _ _ _ _ p.0 p.1 p.2 c.if-a-ne-NONE.true p.3 _ low _ c.higher.ensures)

pub bounds-heads-low-then-a-ne-NONE : goal.bounds-heads-low-then-a-ne-NONE
bounds-heads-low-then-a-ne-NONE c =
    let p = c.requires in low_as _ _ _ _ _ p.0 p.1 p.2 c.if-a-ne-NONE.true p.3 _ c.lower-low.ensures

pub returns-then-a-ne-NONE : goal.returns-then-a-ne-NONE
returns-then-a-ne-NONE c =
    let p = c.requires in entered_as _ _ _ _ _ p.0 p.1 p.2 c.if-a-ne-NONE.true p.3 _ c.lower-low.ensures _
    c.higher.ensures

pub returns-else-a-ne-NONE : goal.returns-else-a-ne-NONE
returns-else-a-ne-NONE c =
    let p = c.requires in rw (skipped _ _ p.1 c.if-a-ne-NONE.false) p.3
