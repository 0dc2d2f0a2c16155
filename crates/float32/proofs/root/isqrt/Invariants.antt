-- `root::isqrt` meets its contract. The loop's invariant: the guess is not below the whole root, and its square fits. It falls, and stops where its
-- square is at most n.
use Prim.Native.Nat.{ℕ, ◌≤◌}
use Rattle.float32.specs.SquareRoot.{isqrt}
use Rattle.float32.proofs.root.isqrt.Given as goal

pub record Above (n root : ℕ) : Type 0 where
  pub root_below : isqrt n ≤ root
  pub small : root ≤ 0x400_0000

abbrev pub invariant-loop-root : goal.invariant-loop-root
invariant-loop-root l = Above l.n l.root

abbrev pub decreases-loop-root : goal.decreases-loop-root
decreases-loop-root l = l.root
