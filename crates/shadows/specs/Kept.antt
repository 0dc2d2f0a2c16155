-- The list that the source's loop keeps, over any relation `shadowed i k`: vertex i is shadowed by vertex k. Definitions only.
use Rattle.std.specs.Prelude.{ℕ, zero, suc, Bool, false, not, cond, ◌||◌, List, [], ◌∷◌, ◌++◌}
use Rattle.base.specs.Lists.{sift}

-- whether the test holds of one of them
abbrev pub some : (ℕ → Bool) → List ℕ → Bool
some p [] = false
some p (k ∷ ks) = p k || some p ks

-- Rule O2 (bounds.rs, calculate_octants): a vertex that a kept one shadows is passed over. Else those that it shadows go, and it comes last.
unfoldable pub admit : (ℕ → ℕ → Bool) → List ℕ → ℕ → List ℕ
admit shadowed kept i = cond (some (shadowed i) kept) kept (sift (λ k. not (shadowed k i)) kept ++ (i ∷ []))

-- what is kept of the vertices 0 to n − 1, taken in their order
abbrev pub kept_of : (ℕ → ℕ → Bool) → ℕ → List ℕ
kept_of shadowed zero = []
kept_of shadowed (suc n) = admit shadowed (kept_of shadowed n) n
