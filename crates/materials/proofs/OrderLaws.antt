-- How many materials the list has depends on which materials there are, not on their order or on how often each comes. By counting: of two lists in
-- which none stands twice, one that has all of the other is the longer.
use Prim.Native.Nat.{ℕ, suc, ◌+◌, ◌≤◌, ◌<◌}
use native.Mathlib.Omega.{arith}
use mathlib.Core.Bool.{Bool, true, false}
use mathlib.Core.List.{List, [], ◌∷◌}
use mathlib.Core.Logic.{⊎_elim}
use mathlib.Core.Path.{◌≡◌, refl, ap, subst}
use lib.Dec.{eqb}
use lib.ListN.{length}
use Rattle.base.proofs.ListLaws.{occurs_more, among_head, among_tail, among_cases}
use Rattle.base.specs.Every.{Every}
use Rattle.base.specs.Lists.{one_if, Among, Permutes}
use Rattle.materials.specs.Materials.{place_in, list_of}
use Rattle.materials.proofs.ListLaws.{listed_once, all_listed, from_among, once_fits}

-- a material that has a place stands in the list
placed_among : (xs : List ℕ) (x : ℕ) → place_in xs x < length xs → Among x xs
placed_among [] x h = absurd (omega arith)
placed_among (y ∷ ys) x h = go (eqb y x) refl (placed_among ys x)
  where
    go : (b : Bool) → eqb y x ≡ b → (place_in ys x < length ys → Among x ys) → Among x (y ∷ ys)
    go true e f = omega (arith, occurs_more x y ys, ap one_if e)
    go false e f =
        let k : 1 + place_in ys x < suc (length ys) = rw e at h in
        among_tail x y ys (f (omega arith))

placed_each : (xs ms : List ℕ) (x : ℕ) → Every (λ y. place_in xs y < length xs) ms → Among x ms → place_in xs x < length xs
placed_each xs [] x w m = absurd (omega arith)
placed_each xs (y ∷ ys) x w m =
    ⊎_elim (λ e. subst (λ (z : ℕ). place_in xs z < length xs) e w.0) (λ n. placed_each xs ys x w.1 n) (among_cases x y ys m)

-- Each polygon's material stands in the list.
pub among_listed : (ms : List ℕ) (x : ℕ) → Among x ms → Among x (list_of ms)
among_listed ms x m = placed_among (list_of ms) x (placed_each (list_of ms) ms x (all_listed ms) m)

each_among : (vs ms : List ℕ) → ((x : ℕ) → Among x ms → Among x vs) → Every (λ x. Among x vs) ms
each_among vs [] f = tt
each_among vs (m ∷ ms) f = (f m (among_head m ms), each_among vs ms (λ x h. f x (among_tail x m ms h)))

-- Polygons that use no other materials have no longer a list.
pub list_no_longer : (ms ns : List ℕ) → ((x : ℕ) → Among x ms → Among x ns) → length (list_of ms) ≤ length (list_of ns)
list_no_longer ms ns f =
    once_fits (list_of ns) (list_of ms) (listed_once ms)
    (from_among (list_of ns) [] ms tt (each_among (list_of ns) ms (λ x m. among_listed ns x (f x m))))

-- In whatever order polygons stand, the list has the same length.
pub list_same_length : (ms ns : List ℕ) → Permutes ms ns → length (list_of ms) ≡ length (list_of ns)
list_same_length ms ns same =
    omega (arith, list_no_longer ms ns (λ x m. omega (arith, same x)), list_no_longer ns ms (λ x m. omega (arith, same x)))
