-- What the tree's laws ask of a builder: its two groups hold the items, neither is empty, and both keep what holds of each place. The builder
-- over boxes does so, by the laws of the split.
use Prim.Native.Nat.{ℕ, ◌+◌, ◌≤◌, ◌<◌}
use mathlib.Core.List.{List, ◌++◌}
use mathlib.Core.Path.{◌≡◌}
use lib.ListN.{length}
use Rattle.base.specs.Lists.{Within, Permutes}
use Rattle.entries.specs.declared.boxes.BoxWords.{BoxWords}
use Rattle.split.proofs.DivideLaws.{divide_total, divide_some_first, divide_some_second, divide_within_first, divide_within_second, divide_permutes}
use Rattle.growth.specs.Grow.{Builder, builder}

pub record Lawful (b : Builder) : Type 0 where
  pub total : (ps : List ℕ) → length (b.first ps) + length (b.second ps) ≡ length ps
  pub some_first : (ps : List ℕ) → 2 ≤ length ps → 0 < length (b.first ps)
  pub some_second : (ps : List ℕ) → 2 ≤ length ps → 0 < length (b.second ps)
  pub within_first : (size : ℕ) (ps : List ℕ) → Within size ps → Within size (b.first ps)
  pub within_second : (size : ℕ) (ps : List ℕ) → Within size ps → Within size (b.second ps)
  pub permutes : (ps : List ℕ) → Permutes (b.first ps ++ b.second ps) ps

pub lawful : (at : ℕ → BoxWords) → Lawful (builder at)
lawful at =
    record {
      total = divide_total at;
      some_first = divide_some_first at;
      some_second = divide_some_second at;
      within_first = divide_within_first at;
      within_second = divide_within_second at;
      permutes = divide_permutes at;
    }
