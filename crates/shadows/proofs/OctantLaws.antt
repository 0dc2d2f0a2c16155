-- Rule O2 for the octants: the list of each is the vertices that nothing displaces, and each vertex is listed or shadowed by a listed one.
use mathlib.Core.Path.{◌≡◌}
use mathlib.Core.List.{List}
use Prim.Native.Nat.{ℕ, ◌<◌}
use Rattle.shadows.specs.Shadows.{flip_of}
use Rattle.shadows.specs.Maxima.{maxima_of}
use Rattle.shadows.specs.Octants.{shadowed_in, octant_of}
use Rattle.shadows.proofs.ShadowLaws.{shadowed_trans}
use Rattle.shadows.proofs.MaximaLaws.{kept_is_maxima, Cover, covered}

pub octant_is_maxima : (o : ℕ) (ws : List ℕ) (n : ℕ) → octant_of o ws n ≡ maxima_of (shadowed_in (flip_of o) ws) n
octant_is_maxima o ws n = kept_is_maxima (shadowed_in (flip_of o) ws) (shadowed_trans o ws) n

pub octant_covers : (o : ℕ) (ws : List ℕ) (n j : ℕ) → j < n → Cover (shadowed_in (flip_of o) ws) n j
octant_covers o ws n j l = covered (shadowed_in (flip_of o) ws) (shadowed_trans o ws) n j l
