-- Which items the positions stand for that a row's id and count name. Definitions only.
use Rattle.std.specs.Prelude.{ℕ, cond, List, [], ◌∷◌, ◌++◌, map, eqb, get_or}
use Rattle.base.specs.Lists.{up_from}
use Rattle.rows.specs.Output.{id_of}
use Rattle.rows.specs.Rows.{Row}

-- Rule R16 (01, Records and ranges: threshold 1, positions are list places; above 1, positions number the items leaf after leaf, and the order
-- list holds their places): the item at a position.
abbrev pub item_at : ℕ → List ℕ → ℕ → ℕ
item_at th order i = cond (eqb th 1) i (get_or order i 0)

-- Rule R16 (01, Walk: a leaf holds the items at positions id to id+count−1, by its record's id and count).
abbrev pub items_in : ℕ → List ℕ → Row → List ℕ
items_in th order r = map (item_at th order) (up_from (id_of th order r) r.count)

-- the items of all the rows, one after the other
abbrev pub items_of : ℕ → List ℕ → List Row → List ℕ
items_of th order [] = []
items_of th order (r ∷ rs) = items_in th order r ++ items_of th order rs
