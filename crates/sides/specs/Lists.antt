-- Lists of sides. Definitions only.
use Rattle.std.specs.Prelude.{ℕ, ◌<◌, List, [], ◌∷◌, eqb}
use Rattle.base.specs.Every.{Every}
use Rattle.base.specs.Lists.{sift}

-- the sides whose number, by `key`, is k, in their order
abbrev pub with_key : (ℕ → ℕ) → ℕ → List ℕ → List ℕ
with_key key k ss = sift (λ s. eqb (key s) k) ss

-- Each side has a smaller number, by `code`, than all that stand behind it: so none stands there twice.
abbrev pub RisingBy : (ℕ → ℕ) → List ℕ → Type 0
RisingBy code [] = Unit {0}
RisingBy code (s ∷ ss) = Every (λ t. code s < code t) ss × RisingBy code ss
