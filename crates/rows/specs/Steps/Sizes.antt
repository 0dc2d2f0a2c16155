-- How the rows' numbers of nodes come about: the rows without them, and the pass that puts them in from the last row to the first. Definitions only.
use Rattle.std.specs.Prelude.{ℕ, zero, suc, ◌+◌, cond, List, [], ◌∷◌, ◌++◌, eqb, length}
use Rattle.rows.specs.Rows.{Row}
use Rattle.rows.specs.Tree.{Node, leaf, inner, leaf_order}

-- the rows with 0 for an inner node's number of nodes
abbrev pub bare_rows : ℕ → Node → List Row
bare_rows lo (leaf b ps) = record { box = b; head = lo; count = length ps } ∷ []
bare_rows lo (inner b l r) = record { box = b; head = 0; count = 0 } ∷ (bare_rows lo l ++ bare_rows (lo + length (leaf_order l)) r)

-- how many nodes the tree at row j has: 1 for a leaf, an inner row's head, 0 past the end
abbrev pub size_at : List Row → ℕ → ℕ
size_at [] j = 0
size_at (r ∷ rs) zero = cond (eqb r.count 0) r.head 1
size_at (r ∷ rs) (suc j) = size_at rs j

-- a row, given the rows after it: the head of an inner row counts itself and its two subtrees, the second behind the first
abbrev pub sized_row : Row → List Row → Row
sized_row r rs =
    record { box = r.box; head = cond (eqb r.count 0) (1 + size_at rs 0 + size_at rs (size_at rs 0)) r.head; count = r.count }

abbrev pub sized : List Row → List Row
sized [] = []
sized (r ∷ rs) = sized_row r (sized rs) ∷ sized rs
