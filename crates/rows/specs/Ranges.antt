-- The ranges that a tree's nodes are cut into. Definitions only.
use Rattle.std.specs.Prelude.{ℕ, ◌+◌, cond, List, [], ◌∷◌, ◌++◌, map, leb}
use Rattle.entries.specs.declared.boxes.BoxWords.{BoxWords}
use Rattle.rows.specs.Tree.{Node, leaf, inner, box_of, size}

-- a part of the tree: its box, its first node, and one past its last
pub record Range : Type 0 where
  pub box : BoxWords
  pub first : ℕ
  pub last : ℕ

-- a node with all below it, and its number
pub record Subtree : Type 0 where
  pub number : ℕ
  pub root : Node

-- Rule R14 (01, Records and ranges; bvh.rs, gather_trees): from the root, whose number is at,
-- a part over `limit` nodes is replaced by its two children's parts.
abbrev pub parts : ℕ → ℕ → Node → List Subtree
parts limit at (leaf b ps) = record { number = at; root = leaf b ps } ∷ []
parts limit at (inner b l r) =
    cond (leb (size (inner b l r)) limit)
    (record { number = at; root = inner b l r } ∷ [])
    (parts limit (at + 1) l ++ parts limit (at + 1 + size l) r)

-- the range of one subtree: its box and its nodes
abbrev pub range_of : Subtree → Range
range_of s = record { box = box_of s.root; first = s.number; last = s.number + size s.root }

abbrev pub ranges : ℕ → ℕ → Node → List Range
ranges limit at t = map range_of (parts limit at t)

-- Rule R14: the limit of a build.
abbrev pub range_limit : ℕ
range_limit = 127
