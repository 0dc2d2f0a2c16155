-- `groups::none_above` meets its contract: none before i passes.
use Prim.Native.Nat.{ℕ, ◌≤◌, ◌<◌}
use mathlib.Core.Path.{◌≡◌}
use mathlib.Core.Bool.{false}
use lib.ListN.{get_or}
use Rattle.split.specs.Steps.Groups.{passes}
use Rattle.split.proofs.groups.none_above.Given as goal

abbrev pub invariant-loop-i : goal.invariant-loop-i
invariant-loop-i l = (k : ℕ) → k < l.i → l.from ≤ k → passes l.entries l.step l.cut (get_or l.places k 0) ≡ false
