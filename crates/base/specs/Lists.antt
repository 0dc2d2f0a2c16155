-- Lists of numbers: what passes a test, how often a number stands in a list, numbers that rise, and what a buffer holds once it is written. Definitions only.
use Rattle.std.specs.Prelude.{ℕ, zero, suc, ◌+◌, ◌*◌, ◌≤◌, ◌<◌, Bool, cond, List, [], ◌∷◌, ◌++◌, ◌≡◌, eqb, length, drop}
use Rattle.base.specs.Every.{Every}

-- 1 where the test holds
abbrev pub one_if : Bool → ℕ
one_if b = cond b 1 0

-- the numbers that pass the test, in their order
abbrev pub sift : (ℕ → Bool) → List ℕ → List ℕ
sift p [] = []
sift p (x ∷ xs) = cond (p x) (x ∷ sift p xs) (sift p xs)

-- how often a number stands in a list
abbrev pub occurrences : ℕ → List ℕ → ℕ
occurrences p ps = length (sift (λ q. eqb q p) ps)

-- The number stands in the list.
abbrev pub Among : ℕ → List ℕ → Type 0
Among p ps = 0 < occurrences p ps

-- Each number stands as often in the one list as in the other: none is lost, and none doubled.
abbrev pub Permutes : List ℕ → List ℕ → Type 0
Permutes ps qs = (p : ℕ) → occurrences p ps ≡ occurrences p qs

-- n numbers, rising from at
abbrev pub up_from : ℕ → ℕ → List ℕ
up_from at zero = []
up_from at (suc n) = at ∷ up_from (at + 1) n

-- every one is below n
abbrev pub Below : ℕ → List ℕ → Type 0
Below n xs = Every (λ x. x < n) xs

-- each is greater than the one before it, and the first at least lo
abbrev pub Rising : ℕ → List ℕ → Type 0
Rising lo [] = Unit {0}
Rising lo (x ∷ xs) = (lo ≤ x) × Rising (x + 1) xs

-- The seven words of the entry at a place lie within `size` words; and those of each place of a list.
abbrev pub Inside : ℕ → ℕ → Type 0
Inside size p = 7 * p + 7 ≤ size

abbrev pub Within : ℕ → List ℕ → Type 0
Within size ps = Every (Inside size) ps

-- what a buffer holds at the end: what was written from its first place on, and then what it had
abbrev pub over : List ℕ → List ℕ → List ℕ
over written before = written ++ drop (length written) before
