-- `past_corners`: the corners before the next are below `past`.
use Prim.Native.Nat.{ℕ, ◌≤◌, ◌<◌}
use mathlib.Core.Path.{◌≡◌}
use mathlib.Core.Bool.{true}
use lib.ListN.{get_or}
use Rattle.corners.specs.Corners.{there}
use Rattle.side_chains.proofs.chains.past_corners.Given as goal

abbrev pub invariant-loop-corner : goal.invariant-loop-corner
invariant-loop-corner l = (l.past ≤ 32768) × ((t : ℕ) → t < l.corner-index → there l.corners t ≡ true → get_or l.corners t 0 < l.past)
