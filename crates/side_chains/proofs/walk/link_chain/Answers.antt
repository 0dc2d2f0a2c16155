-- `link_chain`, by the invariant `Walking`.
use Prim.Native.Nat.{◌-◌}
use Rattle.side_chains.proofs.walk.Walking.{start, fit_side, for_link, for_first, first_inside, less, goes_first, goes_later, ended}
use native.Mathlib.Omega.{arith}
use Rattle.side_chains.proofs.walk.link_chain.Goals as goal

pub loop-e-init : goal.loop-e-init
loop-e-init c = start _ _ _ _ _ c.requires

pub overflow_cast-next : goal.overflow_cast-next
overflow_cast-next c = omega (arith, (fit_side _ _ _ _ _ _ _ _ c.loop-e.invariant c.loop-e-test.true).number)

pub offset_bounds-nexts-side : goal.offset_bounds-nexts-side
offset_bounds-nexts-side c = omega (arith, (fit_side _ _ _ _ _ _ _ _ c.loop-e.invariant c.loop-e-test.true).number)

pub bounds-nexts-side : goal.bounds-nexts-side
bounds-nexts-side c = (fit_side _ _ _ _ _ _ _ _ c.loop-e.invariant c.loop-e-test.true).for_next

pub overflow_cast-high : goal.overflow_cast-high
overflow_cast-high c = omega (arith, c.shared_slice_known-in-loop-e-1.given (c.loop-e.e - 1))

pub offset_bounds-firsts-high : goal.offset_bounds-firsts-high
offset_bounds-firsts-high c = omega (arith, c.shared_slice_known-in-loop-e-1.given (c.loop-e.e - 1))

pub bounds-firsts-high : goal.bounds-firsts-high
bounds-firsts-high c = for_first _ _ _ _ _ _ _ _ c.loop-e.invariant c.loop-e-test.true

pub link_later-requires : goal.link_later-requires
link_later-requires c =
    let inside = first_inside _ _ _ _ _ _ _ _ c.loop-e.invariant c.loop-e-test.true c.if-first-base.true in
    (inside, for_link _ _ _ _ _ _ _ _ c.loop-e.invariant c.loop-e-test.true)

pub loop-e-smaller-then-first-base : goal.loop-e-smaller-then-first-base
loop-e-smaller-then-first-base c =
    less _ _ _ _ _ _ _ _ c.loop-e.invariant c.loop-e-test.true

pub loop-e-preserved-then-first-base : goal.loop-e-preserved-then-first-base
loop-e-preserved-then-first-base c =
    rw c.link_later.ensures (goes_later _ _ _ _ _ _ _ _ c.loop-e.invariant c.loop-e-test.true c.if-first-base.true)

pub overflow_add-firsts : goal.overflow_add-firsts
overflow_add-firsts c =
    omega (arith, c.loop-e.invariant.room, (fit_side _ _ _ _ _ _ _ _ c.loop-e.invariant c.loop-e-test.true).number)

pub offset_bounds-firsts-high-else-first-base : goal.offset_bounds-firsts-high-else-first-base
offset_bounds-firsts-high-else-first-base c =
    omega (arith, c.shared_slice_known-in-loop-e-1.given (c.loop-e.e - 1))

pub bounds-firsts-high-else-first-base : goal.bounds-firsts-high-else-first-base
bounds-firsts-high-else-first-base c =
    for_first _ _ _ _ _ _ _ _ c.loop-e.invariant c.loop-e-test.true

pub overflow_cast-links : goal.overflow_cast-links
overflow_cast-links c =
    omega (arith, (fit_side _ _ _ _ _ _ _ _ c.loop-e.invariant c.loop-e-test.true).number)

pub offset_bounds-links-side : goal.offset_bounds-links-side
offset_bounds-links-side c =
    omega (arith, (fit_side _ _ _ _ _ _ _ _ c.loop-e.invariant c.loop-e-test.true).number)

pub bounds-links-side : goal.bounds-links-side
bounds-links-side c =
    for_link _ _ _ _ _ _ _ _ c.loop-e.invariant c.loop-e-test.true

pub loop-e-smaller : goal.loop-e-smaller
loop-e-smaller c =
    less _ _ _ _ _ _ _ _ c.loop-e.invariant c.loop-e-test.true

pub loop-e-preserved : goal.loop-e-preserved
loop-e-preserved c =
    goes_first _ _ _ _ _ _ _ _ c.loop-e.invariant c.loop-e-test.true c.if-first-base.false

pub returns : goal.returns
returns c = ended _ _ _ _ _ _ _ _ c.loop-e.invariant c.loop-e-test.false
