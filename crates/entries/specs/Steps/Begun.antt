-- The totals that are kept of what a list begins with. Definitions only.
use Rattle.std.specs.Prelude.{ℕ, ◌≤◌, ◌<◌, List, ◌≡◌, length, take}
use Rattle.entries.specs.declared.boxes.BoxWords.{BoxWords}
use Rattle.entries.specs.declared.totals.Begun.{Begun}
use Rattle.entries.specs.Steps.Totals.{totals_all}

-- Rules T1 and T4, a step: where any totals are kept, they are those of the first places of the list.
pub record Begins (at : ℕ → BoxWords) (b : Begun) (ps : List ℕ) : Type 0 where
  pub within : b.count ≤ length ps
  pub kept : 0 < b.count → b.totals ≡ totals_all at (take b.count ps)
