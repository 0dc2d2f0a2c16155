-- `sums::put_sums` meets its contract. The loop's invariant: the points hold the sums of the polygons before p.
use mathlib.Core.Path.{◌≡◌}
use Prim.Native.Nat.{ℕ, ◌*◌, ◌≤◌}
use mathlib.Core.List.{List}
use lib.ListN.{length}
use Rattle.by_normals.specs.Normals.{Placed, placed_of}
use Rattle.by_normals.specs.Steps.Sums.{Sums}
use Rattle.by_normals.proofs.sums.put_sums.Given as goal

pub record Summing (g : Placed) (n : ℕ) (before points : List ℕ) (p : ℕ) : Type 0 where
  pub same_length : length points ≡ length before
  pub sums-are : Sums g (3 * p) points

abbrev pub invariant-loop-p : goal.invariant-loop-p
invariant-loop-p l = Summing (placed_of l.corners l.vertices l.v l.center l.transform) l.n l.initial.points l.points l.p
