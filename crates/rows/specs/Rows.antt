-- The nodes of a tree in preorder. Definitions only.
use Rattle.std.specs.Prelude.{ℕ, ◌+◌, List, [], ◌∷◌, ◌++◌, length}
use Rattle.entries.specs.declared.boxes.BoxWords.{BoxWords}
use Rattle.rows.specs.Tree.{Node, leaf, inner, leaf_order, size}

-- What is kept of a node: its box; of a leaf where its items start in the leaf order and how many they are; of an inner node its number of
-- nodes, itself included, and 0.
pub record Row : Type 0 where
  pub box : BoxWords
  pub head : ℕ
  pub count : ℕ

-- Rule R10 (01, Records and ranges; bvh.rs, gather_nodes): preorder, for a tree whose first item has the position lo.
abbrev pub rows : ℕ → Node → List Row
rows lo (leaf b ps) = record { box = b; head = lo; count = length ps } ∷ []
rows lo (inner b l r) =
    record { box = b; head = size (inner b l r); count = 0 } ∷ (rows lo l ++ rows (lo + length (leaf_order l)) r)
