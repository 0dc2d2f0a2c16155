-- `root::isqrt` meets its contract. The loop's invariant: the guess is not below the whole root, and its square fits. It falls, and stops where its
-- square is at most n.
use Prim.Native.Nat.{ℕ, ◌/◌, ◌^◌, ◌≤◌, ◌<◌}
use native.Mathlib.Nat.{le_antisymm, mul-le-mul, div-le_self, div-lt_iff_lt-mul}
use native.Mathlib.Omega.{arith}
use Rattle.float32.proofs.root.WholeRoot.{below_root}
use Rattle.float32.proofs.root.Iteration.{step_above, step_falls, square_pos}
use Rattle.float32.proofs.root.isqrt.Goals as goal

quotient : (n g : ℕ) → n < 2 ^ 48 → 0x80_0000 ≤ g → n / g < 0x200_0000
quotient n g h k = (div-lt_iff_lt-mul {k = g} {x = n} {y = 0x200_0000} (omega arith)).1 (omega arith)

pub overflow_add-root : goal.overflow_add-root
overflow_add-root c = omega (arith, quotient c.args.n c.args.guess c.requires.0 c.requires.1)

pub loop-root-init : goal.loop-root-init
loop-root-init c =
    let n = c.args.n in
    let g = c.args.guess in
    record { root_below = step_above n g (omega (arith, c.requires.1)); small = omega (arith, quotient n g c.requires.0 c.requires.1) }

pub overflow_mul-root : goal.overflow_mul-root
overflow_mul-root c = omega (arith, mul-le-mul c.loop-root.invariant.small c.loop-root.invariant.small)

pub nonzero_div-root-in-loop-root : goal.nonzero_div-root-in-loop-root
nonzero_div-root-in-loop-root c = square_pos c.args.n c.loop-root.root c.loop-root-test.true

pub overflow_add-root-in-loop-root : goal.overflow_add-root-in-loop-root
overflow_add-root-in-loop-root c = omega (arith, div-le_self c.args.n c.loop-root.root)

pub loop-root-smaller : goal.loop-root-smaller
loop-root-smaller c = step_falls c.args.n c.loop-root.root c.loop-root-test.true

pub loop-root-preserved : goal.loop-root-preserved
loop-root-preserved c =
    let n = c.args.n in
    let r = c.loop-root.root in
    let above = c.loop-root-test.true in
    record { root_below = step_above n r (square_pos n r above); small = omega (arith, step_falls n r above) }

pub returns : goal.returns
returns c = le_antisymm (below_root c.loop-root.root c.args.n c.loop-root-test.false) c.loop-root.invariant.root_below
