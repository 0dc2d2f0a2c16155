-- A tree: what is said of it however it grew. Definitions only.
use Rattle.std.specs.Prelude.{ℕ, ◌+◌, List, ◌++◌}
use Rattle.entries.specs.declared.boxes.BoxWords.{BoxWords}

-- A node has its box, and its items or its two children.
pub data Node : Type 0 where
  leaf : BoxWords → List ℕ → Node
  inner : BoxWords → Node → Node → Node

abbrev pub box_of : Node → BoxWords
box_of (leaf b ps) = b
box_of (inner b l r) = b

-- the items, leaf after leaf
abbrev pub leaf_order : Node → List ℕ
leaf_order (leaf b ps) = ps
leaf_order (inner b l r) = leaf_order l ++ leaf_order r

-- how many nodes it has
abbrev pub size : Node → ℕ
size (leaf b ps) = 1
size (inner b l r) = 1 + size l + size r
