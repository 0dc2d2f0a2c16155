-- `link_chains`: the sides whose lower corner is below a are linked, whatever the sides are that the chains are of.
use Prim.Native.Nat.{ℕ, ◌*◌, ◌≤◌, ◌<◌}
use mathlib.Core.Path.{◌≡◌}
use mathlib.Core.List.{List}
use lib.ListN.{length, get_or}
use Rattle.side_chains.specs.Steps.Chains.{Chained}
use Rattle.side_chains.proofs.walk.Linking.{Linking}
use Rattle.side_chains.proofs.walk.link_chains.Given as goal

abbrev pub invariant-loop-a : goal.invariant-loop-a
invariant-loop-a l = (length l.firsts ≡ length l.initial.firsts) × (length l.links ≡ length l.initial.links)
    × ((b : ℕ) → b < length l.firsts → get_or l.firsts b 0 ≤ l.a * 131072)
    × ((key : ℕ → ℕ) (ss : List ℕ) → Chained key ss l.heads l.nexts → Linking key ss l.a l.initial.links l.links)
