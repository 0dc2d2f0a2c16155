-- What holds of every number of a list. Definitions only.
use Rattle.std.specs.Prelude.{ℕ, List, [], ◌∷◌}

abbrev pub Every : (ℕ → Type 0) → List ℕ → Type 0
Every P [] = Unit {0}
Every P (x ∷ xs) = P x × Every P xs
