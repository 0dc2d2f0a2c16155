-- `put_children`, by the invariant `Putting`.
use Rattle.std.specs.Prelude.{◌≤◌}
use Rattle.composite.proofs.BoxLaws.{Putting}
use Rattle.composite.proofs.boxes.put_children.Given as goal

abbrev pub invariant-loop-k : goal.invariant-loop-k
invariant-loop-k l = (Putting l.children l.initial.out l.out l.k) × (l.k ≤ l.n)
