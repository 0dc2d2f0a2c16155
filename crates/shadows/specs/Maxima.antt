-- The list without the loop: the vertices that no other one has reason to displace. Definitions only.
use Rattle.std.specs.Prelude.{ℕ, zero, suc, Bool, true, not, ◌&&◌, ◌||◌, ◌≡◌, List, [], ◌∷◌, ◌++◌, ltb}
use Rattle.base.specs.Lists.{sift}

-- what shadows the shadowing shadows too
abbrev pub Transitive : (ℕ → ℕ → Bool) → Type 0
Transitive shadowed = (i j k : ℕ) → shadowed i j ≡ true → shadowed j k ≡ true → shadowed i k ≡ true

-- 0 to n − 1
abbrev pub numbers : ℕ → List ℕ
numbers zero = []
numbers (suc n) = numbers n ++ (n ∷ [])

-- the test fails for each of 0 to n − 1
abbrev pub none_below : ℕ → (ℕ → Bool) → Bool
none_below zero p = true
none_below (suc n) p = none_below n p && not (p n)

-- j displaces i: it shadows it, and comes first where they shadow each other.
unfoldable pub displaced : (ℕ → ℕ → Bool) → ℕ → ℕ → Bool
displaced shadowed i j = shadowed i j && (ltb j i || not (shadowed j i))

-- Rule O2, without the loop: none of the n vertices displaces i.
abbrev pub listed : (ℕ → ℕ → Bool) → ℕ → ℕ → Bool
listed shadowed n i = none_below n (displaced shadowed i)

abbrev pub maxima_of : (ℕ → ℕ → Bool) → ℕ → List ℕ
maxima_of shadowed n = sift (listed shadowed n) (numbers n)
