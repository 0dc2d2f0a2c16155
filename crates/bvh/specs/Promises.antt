-- What the tree of a build keeps, whatever its boxes: what the records' promises (tree's specs, Promises) are proved by. Definitions only.
use Rattle.std.specs.Prelude.{◌≡◌, ℕ, ◌≤◌}
use mathlib.Core.List.{Memᴰ}
use Rattle.base.specs.Lists.{occurrences}
use Rattle.bvh.specs.Build.{Entries, tree_of}
use Rattle.rows.specs.Numbers.{Cut}
use Rattle.rows.specs.Positions.{items_of}
use Rattle.rows.specs.Ranges.{ranges}
use Rattle.rows.specs.Rows.{Row, rows}
use Rattle.rows.specs.Tree.{leaf_order}

-- Rule P4, of the tree: each present item in exactly one leaf, no leaf over the threshold, each leaf in exactly one range, no range over the limit of nodes.
pub record WellGrown (limit : ℕ) (e : Entries) (th : ℕ) : Type 0 where
  -- the leaves hold a present item once, and no other at all
  pub present_once : (p : ℕ) → Memᴰ p e.places → occurrences p (items_of th (leaf_order (tree_of e th)) (rows 0 (tree_of e th))) ≡ 1
  pub only_present : (p : ℕ) → occurrences p (items_of th (leaf_order (tree_of e th)) (rows 0 (tree_of e th))) ≡ occurrences p e.places
  pub at_most : (r : Row) → Memᴰ r (rows 0 (tree_of e th)) → r.count ≤ th
  pub cut : Cut limit (tree_of e th) (ranges limit 0 (tree_of e th))
