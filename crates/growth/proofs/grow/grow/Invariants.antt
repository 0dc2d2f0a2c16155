-- `grow::grow` meets its contract. The loop's invariant is `Going`: the rows that are laid, followed by those of the segments that wait, are
-- the whole tree's. And what is begun is what the segment at the top of the stack begins with.
use Prim.Native.Nat.{◌-◌, ◌*◌}
use mathlib.Core.Path.{◌≡◌}
use lib.ListN.{length}
use Rattle.entries.specs.Boxes.{box_at}
use Rattle.entries.specs.Steps.Begun.{Begins}
use Rattle.growth.specs.Grow.{builder}
use Rattle.growth.proofs.grow.Beginning.{first_segment}
use Rattle.growth.proofs.grow.Going.{Slices, Going}
use Rattle.growth.proofs.grow.grow.Given as goal

abbrev pub invariant-loop-lo : goal.invariant-loop-lo
invariant-loop-lo l = let s₀ : Slices = record { places = l.initial.places; temp = l.initial.temp; stack = l.initial.stack; rows = l.initial.rows } in
    let s : Slices = record { places = l.places; temp = l.temp; stack = l.stack; rows = l.rows } in
    (Going (builder (box_at l.entries)) l.threshold l.entries s₀ s l.sp l.lo l.m) × (l.n ≡ length l.initial.places)
    × (Begins (box_at l.entries) l.begun (first_segment l.stack l.sp l.places l.lo))

abbrev pub decreases-loop-lo : goal.decreases-loop-lo
decreases-loop-lo l = 2 * l.n - l.m
