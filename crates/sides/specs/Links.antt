-- Rule E2 (01, Polygons; bounds.rs, update_edge_indices): what a side is linked to. Definitions only.
use Rattle.std.specs.Prelude.{ℕ, ◌/◌, ◌≤◌, cond, List, [], ◌∷◌, map, eqb, length}
use Rattle.base.specs.Lists.{up_from}
use Rattle.sides.specs.Lists.{with_key}
use Rattle.corners.specs.Corners.{none, there}
use Rattle.sides.specs.Sides.{key_of, sides_of}

-- Rule E2 (01: "the first two triangle sides on an undirected edge link to each other's triangle .., later sides to the first's; alone −1"):
-- the link of side s, among the sides that lie on its edge.
abbrev pub link_among : ℕ → List ℕ → ℕ
link_among s [] = none
link_among s (f ∷ []) = none
link_among s (f ∷ (g ∷ gs)) = cond (eqb s f) (g / 3) (f / 3)

-- Rule E2: the sides that lie on the edge of side s, in their order
abbrev pub same_as : List ℕ → ℕ → List ℕ
same_as cs s = with_key (key_of cs) (key_of cs s) (sides_of cs)

-- Rule E2: none where there is no side. In the words of 01, over corners alone, this is Meaning's `LinkMeaning`.
unfoldable pub link_of : List ℕ → ℕ → ℕ
link_of cs s = cond (there cs s) (link_among s (same_as cs s)) none

-- Rule E2: a link for each corner.
abbrev pub links_of : List ℕ → List ℕ
links_of cs = map (link_of cs) (up_from 0 (length cs))

-- There is room for the links of the corners cs, and to work in.
pub record Room (cs keys sides spare links : List ℕ) : Type 0 where
  pub for_keys : length cs ≤ length keys
  pub for_sides : length cs ≤ length sides
  pub for_spare : length cs ≤ length spare
  pub for_links : length cs ≤ length links
