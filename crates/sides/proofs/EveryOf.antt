-- What holds of every side: of each that stands in the list, of two lists together, of what a test leaves.
use Prim.Native.Nat.{ℕ}
use mathlib.Core.Path.{◌≡◌, refl, subst}
use mathlib.Core.Logic.{⊎_elim}
use mathlib.Core.Bool.{Bool, true, false, cond}
use mathlib.Core.List.{List, [], ◌∷◌}
use native.Mathlib.Omega.{arith}
use Rattle.base.specs.Every.{Every}
use Rattle.base.specs.Lists.{sift, Among}
use Rattle.base.proofs.ListLaws.{among_head, among_tail, among_cases}

module _ (P : ℕ → Type 0) where
  pub every_all : ((s : ℕ) → P s) → (ss : List ℕ) → Every P ss
  every_all f [] = tt
  every_all f (s ∷ ss) = (f s, every_all f ss)

  pub every_among : (s : ℕ) (ss : List ℕ) → Every P ss → Among s ss → P s
  every_among s [] w h = absurd (omega arith)
  every_among s (t ∷ ts) w h = ⊎_elim (λ e. subst P e w.0) (λ m. every_among s ts w.1 m) (among_cases s t ts h)

  pub every_of : (ss : List ℕ) → ((s : ℕ) → Among s ss → P s) → Every P ss
  every_of [] f = tt
  every_of (s ∷ ss) f = (f s (among_head s ss), every_of ss (λ t h. f t (among_tail t s ss h)))

module _ (P Q : ℕ → Type 0) where
  pub every_map : ((s : ℕ) → P s → Q s) → (ss : List ℕ) → Every P ss → Every Q ss
  every_map f [] w = tt
  every_map f (s ∷ ss) w = (f s w.0, every_map f ss w.1)

  pub every_both : (ss : List ℕ) → Every P ss → Every Q ss → Every (λ s. P s × Q s) ss
  every_both [] v w = tt
  every_both (s ∷ ss) v w = ((v.0, w.0), every_both ss v.1 w.1)

  -- each of the one list with each of the other
  pub every_each : (R : ℕ → ℕ → Type 0) → ((s t : ℕ) → P s → Q t → R s t) → (ss ts : List ℕ) → Every P ss → Every Q ts
      → Every (λ s. Every (R s) ts) ss
  every_each R f [] ts v w = tt
  every_each R f (s ∷ ss) ts v w = (with_one ts w, every_each R f ss ts v.1 w)
    where
      with_one : (ts : List ℕ) → Every Q ts → Every (R s) ts
      with_one [] w = tt
      with_one (t ∷ ts) w = (f s t v.0 w.0, with_one ts w.1)

-- what is left by a test passes it
pub every_passes : (test : ℕ → Bool) (ss : List ℕ) → Every (λ s. test s ≡ true) (sift test ss)
every_passes test [] = tt
every_passes test (s ∷ ss) = go (test s) refl (every_passes test ss)
  where
    go : (b : Bool) → test s ≡ b → Every (λ t. test t ≡ true) (sift test ss)
        → Every (λ t. test t ≡ true) (cond b (s ∷ sift test ss) (sift test ss))
    go true e w = (e, w)
    go false e w = w
