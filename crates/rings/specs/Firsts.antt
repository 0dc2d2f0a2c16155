-- Rule S3 (bounds.rs, shrink_polys_by_margin: processed): the first side at which a vertex stands. Definitions only.
-- Side s is slot s % 3 of polygon s / 3.
use Rattle.std.specs.Prelude.{ℕ, List, [], ◌∷◌, eqb, get_or}
use Rattle.base.specs.Lists.{sift, up_from}

-- no side
abbrev pub no_side : ℕ
no_side = 0xffff_ffff

-- the first side of a list
abbrev pub first_or_no_side : List ℕ → ℕ
first_or_no_side [] = no_side
first_or_no_side (s ∷ ss) = s

-- Rule S3: of m sides the first at which vertex i stands, also in a triangle that has a corner past the vertices.
abbrev pub first_side : List ℕ → ℕ → ℕ → ℕ
first_side cs i m = first_or_no_side (sift (λ s. eqb (get_or cs s 0) i) (up_from 0 m))
