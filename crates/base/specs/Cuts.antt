-- How one lent buffer is cut into the parts that an operation works in: so do the inline functions of the C header (`bounds_part`) and `parts` in Rust.
-- Definitions only.
use Rattle.std.specs.Prelude.{ℕ, ◌+◌, ◌-◌, Bool, true, false, cond, ◌||◌, List, [], ◌∷◌, ltb}

-- the lesser of two numbers
abbrev pub lesser : ℕ → ℕ → ℕ
lesser a b = cond (ltb a b) a b

-- all of them together
abbrev pub total : List ℕ → ℕ
total [] = 0
total (n ∷ ns) = n + total ns

-- What each part gets, by the least lengths that are asked for: its length or what is left, and the last part all that is left.
abbrev pub cut : List ℕ → ℕ → List ℕ
cut [] left = []
cut (least ∷ []) left = left ∷ []
cut (least ∷ next ∷ more) left = lesser least left ∷ cut (next ∷ more) (left - lesser least left)

-- whether a part is too short: under its least length, or not there
abbrev pub any_short : List ℕ → List ℕ → Bool
any_short [] lengths = false
any_short (least ∷ more) [] = true
any_short (least ∷ more) (length ∷ lengths) = ltb length least || any_short more lengths
