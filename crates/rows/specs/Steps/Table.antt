-- The table of rows in the work buffer, eight words a row. Definitions only.
use Rattle.std.specs.Prelude.{ℕ, zero, suc, ◌+◌, ◌*◌, List, [], ◌∷◌, ◌++◌, get_or, drop}
use Rattle.std.proofs.lemmas.List.Edits.{sets}
use Rattle.entries.specs.Boxes.{box_from, box_words}
use Rattle.rows.specs.Rows.{Row}

-- a row's words: its box, its head and its count
abbrev pub row_words : Row → List ℕ
row_words r = box_words r.box ++ (r.head ∷ r.count ∷ [])

-- the words of rows, one after the other
abbrev pub table_of : List Row → List ℕ
table_of [] = []
table_of (r ∷ rs) = row_words r ++ table_of rs

-- row i of a table, read back
abbrev pub row_at : List ℕ → ℕ → Row
row_at ws i = record { box = box_from ws (8 * i); head = get_or ws (8 * i + 6) 0; count = get_or ws (8 * i + 7) 0 }

-- its first n rows
abbrev pub rows_in : ℕ → List ℕ → List Row
rows_in zero ws = []
rows_in (suc n) ws = row_at ws 0 ∷ rows_in n (drop 8 ws)

-- the table with another row in the place of row i
abbrev pub with_row : ℕ → Row → List ℕ → List ℕ
with_row i r ws = sets ws (8 * i) (row_words r)
