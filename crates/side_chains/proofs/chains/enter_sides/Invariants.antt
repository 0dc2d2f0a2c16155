-- `enter_sides`: the sides of the polygons from p on are entered.
use Prim.Native.Nat.{◌*◌}
use mathlib.Core.Path.{◌≡◌}
use lib.ListN.{length}
use Rattle.sides.specs.Sides.{key_of}
use Rattle.side_chains.specs.Steps.Chains.{Chained, sides_from}
use Rattle.side_chains.proofs.chains.enter_sides.Given as goal

abbrev pub invariant-loop-p : goal.invariant-loop-p
invariant-loop-p l = (length l.heads ≡ length l.initial.heads) × (length l.nexts ≡ length l.initial.nexts)
    × (Chained (key_of l.corners) (sides_from l.corners (3 * l.p)) l.heads l.nexts)
