-- Links by the definition: a triangle with a doubled corner, and triangles behind a polygon that is none. Computed.
use mathlib.Core.Path.{◌≡◌, refl}
use mathlib.Core.List.{[], ◌∷◌}
use Rattle.corners.specs.Corners.{none, next_of}
use Rattle.sides.specs.Sides.{pair_of, key_of}
use Rattle.sides.specs.Links.{link_of, links_of}

doubled : links_of (0 ∷ 0 ∷ 1 ∷ []) ≡ none ∷ 0 ∷ 0 ∷ []
unfolding next_of pair_of key_of link_of
doubled = refl

behind_another : links_of (none ∷ none ∷ none ∷ 0 ∷ 1 ∷ 2 ∷ 2 ∷ 1 ∷ 3 ∷ []) ≡ none ∷ none ∷ none ∷ none ∷ 2 ∷ none ∷ 1 ∷ none ∷ none ∷ []
unfolding next_of pair_of key_of link_of
behind_another = refl
