-- The numbers of a tree's nodes in preorder, and which of them the ranges hold. Definitions only.
use Rattle.std.specs.Prelude.{ℕ, ◌+◌, ◌-◌, ◌≤◌, ◌<◌, Bool, cond, ◌&&◌, ◌≡◌, leb, ltb, drop}
use mathlib.Core.List.{List, [], ◌∷◌, ◌++◌, Memᴰ}
use Rattle.rows.specs.Tree.{Node, leaf, inner, size}
use Rattle.rows.specs.Ranges.{Range, Subtree, range_of}
use Rattle.rows.specs.Rows.{Row, rows}

-- Rule R10 (01, Records and ranges; bvh.rs, number): every node in preorder, for a tree whose root has the number at.
abbrev pub subtrees : ℕ → Node → List Subtree
subtrees at (leaf b ps) = record { number = at; root = leaf b ps } ∷ []
subtrees at (inner b l r) = record { number = at; root = inner b l r } ∷ (subtrees (at + 1) l ++ subtrees (at + 1 + size l) r)

-- the numbers of the leaves
abbrev pub leaf_numbers : ℕ → Node → List ℕ
leaf_numbers at (leaf b ps) = at ∷ []
leaf_numbers at (inner b l r) = leaf_numbers (at + 1) l ++ leaf_numbers (at + 1 + size l) r

-- 01, Walk: a range holds the nodes first to last − 1.
abbrev pub holds : ℕ → Range → Bool
holds k r = leb r.first k && ltb k r.last

-- how many nodes a range has
abbrev pub nodes_in : Range → ℕ
nodes_in r = r.last - r.first

-- how many of the ranges hold node k
abbrev pub ranges_holding : ℕ → List Range → ℕ
ranges_holding k [] = 0
ranges_holding k (r ∷ rs) = cond (holds k r) 1 0 + ranges_holding k rs

-- The ranges lie between lo and hi, each has a node, and each begins where the one before it has ended, or later.
abbrev pub RisingRanges : ℕ → List Range → ℕ → Type 0
RisingRanges lo [] hi = lo ≤ hi
RisingRanges lo (r ∷ rs) hi = (lo ≤ r.first) × (r.first < r.last) × RisingRanges r.last rs hi

-- A range is that of one subtree of at most `limit` nodes.
pub record Part (limit at : ℕ) (t : Node) (r : Range) : Type 0 where
  pub subtree : Subtree
  pub within : Memᴰ subtree (subtrees at t)
  pub small : size subtree.root ≤ limit
  pub range_is : r ≡ range_of subtree

-- Among the rows rs, those of the tree t stand from number k on; its first item has the position given.
pub record RowsFrom (k : ℕ) (t : Node) (rs : List Row) : Type 0 where
  pub position : ℕ
  pub rest : List Row
  pub rows_are : drop k rs ≡ rows position t ++ rest

-- What the request's point 3 asks of the ranges rs of a tree t, at a limit of nodes.
pub record Cut (limit : ℕ) (t : Node) (rs : List Range) : Type 0 where
  pub sizes : (r : Range) → Memᴰ r rs → (0 < nodes_in r) × (nodes_in r ≤ limit)
  pub rising : RisingRanges 0 rs (size t)
  pub parts : (r : Range) → Memᴰ r rs → Part limit 0 t r
  pub leaves : (k : ℕ) → Memᴰ k (leaf_numbers 0 t) → ranges_holding k rs ≡ 1
