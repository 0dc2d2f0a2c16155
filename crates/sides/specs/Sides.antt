-- Rule E1 (01, Polygons; bounds.rs, update_edge_indices): the sides of triangles, and which of them lie on one edge. Definitions only.
-- The corners are three numbers a polygon. Side s is slot s % 3 of polygon s / 3, and leads from its corner to the next one.
use Rattle.std.specs.Prelude.{ℕ, ◌+◌, ◌*◌, cond, List, ltb, length, get_or}
use Rattle.base.specs.Lists.{sift, up_from}
use Rattle.corners.specs.Corners.{next_of, there}

-- Rule E1: two corners as one number, the same from either end
unfoldable pub pair_of : ℕ → ℕ → ℕ
pair_of a b = cond (ltb a b) (a * 32768 + b) (b * 32768 + a)

-- Rule E1: two sides lie on one edge if their keys are equal.
unfoldable pub key_of : List ℕ → ℕ → ℕ
key_of cs s = pair_of (get_or cs s 0) (get_or cs (next_of s) 0)

-- Rule E1: the sides that are there, in their order
abbrev pub sides_of : List ℕ → List ℕ
sides_of cs = sift (there cs) (up_from 0 (length cs))
