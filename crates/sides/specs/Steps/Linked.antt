-- What the runs of an edge's sides are linked to. Definitions only.
use Rattle.std.specs.Prelude.{ℕ, ◌/◌, cond, List, [], ◌∷◌, ◌≡◌, eqb, get_or}
use Rattle.base.specs.Every.{Every}
use Rattle.base.specs.Lists.{occurrences}
use Rattle.corners.specs.Corners.{none}
use Rattle.sides.specs.Lists.{with_key}
use Rattle.sides.specs.Links.{link_among}

-- Among sides by rising key, the link of the first on its edge: the next one's polygon, if that lies on the edge too.
abbrev pub link_of_first : (ℕ → ℕ) → List ℕ → ℕ
link_of_first key [] = none
link_of_first key (s ∷ []) = none
link_of_first key (s ∷ (t ∷ ts)) = cond (eqb (key t) (key s)) (t / 3) none

-- Each of the sides ss is linked, in `after`; of every other side the link is as it was.
pub record Linked (key : ℕ → ℕ) (ss before after : List ℕ) : Type 0 where
  pub linked : Every (λ s. get_or after s 0 ≡ link_among s (with_key key (key s) ss)) ss
  pub others : (s : ℕ) → occurrences s ss ≡ 0 → get_or after s 0 ≡ get_or before s 0
