-- Small values of the definitions, by computing: three polygons in the order 2, 0, 1.
use mathlib.Core.List.{List, [], ◌∷◌}
use mathlib.Core.Path.{◌≡◌, refl}
use Prim.Native.Nat.{ℕ}
use lib.IntN.{pos, negsuc}
use lib.Ieee.{binary32, of_bits}
use Rattle.corners.specs.Corners.{none}
use Rattle.polygon.specs.declared.Polygon.TheVariants.{Triangle}
use Rattle.reorder.specs.Reordering.{in_order, lookup_of, renumbered, new_link, relinked}

abbrev order : List ℕ
order = 2 ∷ 0 ∷ 1 ∷ []

-- Place 0 comes to position 1, place 1 to 2, place 2 to 0.
pub lookup_is : lookup_of 3 order ≡ 1 ∷ 2 ∷ 0 ∷ []
lookup_is = refl

-- The materials' numbers are taken along.
pub numbers_are : in_order order (10 ∷ 11 ∷ 12 ∷ []) ≡ 12 ∷ 10 ∷ 11 ∷ []
numbers_are = refl

-- A link to a polygon, one past the three, and none.
pub links_are : renumbered (lookup_of 3 order) 2 ∷ renumbered (lookup_of 3 order) 3 ∷ renumbered (lookup_of 3 order) none ∷ [] ≡ 0 ∷ none ∷ none ∷ []
unfolding renumbered
links_are = refl

-- A triangle keeps its vertices, flagged ones too; −1 stays −1.
pub triangle_is : relinked (lookup_of 3 order) (Triangle (of_bits binary32 0) 0 32769 2 3 (pos 1) (negsuc 0) (pos 9))
    ≡ Triangle (of_bits binary32 0) 0 32769 2 3 (pos 2) (negsuc 0) (negsuc 0)
unfolding new_link renumbered
triangle_is = refl
