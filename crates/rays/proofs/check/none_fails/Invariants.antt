-- `check::none_fails` meets its contract. The loop's invariant: none of the vertices whose turn was before k fails.
use mathlib.Core.Path.{◌≡◌}
use mathlib.Core.Bool.{true}
use Rattle.rays.specs.Steps.Counting.{none_to}
use Rattle.rays.specs.Steps.Checking.{fails_in, turn_of}
use Rattle.rays.proofs.check.none_fails.Given as goal

abbrev pub invariant-loop-k : goal.invariant-loop-k
invariant-loop-k l = none_to l.k (λ k. fails_in l.tri l.t l.old l.new (turn_of l.hint l.v k)) ≡ true
