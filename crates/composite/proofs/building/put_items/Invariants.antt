-- `put_items`, by the invariant `Making`.
use Rattle.std.specs.Prelude.{◌≤◌}
use Rattle.composite.specs.Trees.{child_items}
use Rattle.composite.proofs.ItemLaws.{Making}
use Rattle.composite.proofs.building.put_items.Given as goal

abbrev pub invariant-loop-i : goal.invariant-loop-i
invariant-loop-i l = (Making (child_items l.children 0 l.n) l.initial.entries l.entries l.i) × (l.i ≤ l.k)
