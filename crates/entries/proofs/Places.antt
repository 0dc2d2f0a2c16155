-- A pass over a list of places, by the invariant that the rest, taken into the state so far, gives the whole result.
use Prim.Native.Nat.{ℕ, ◌+◌, ◌*◌, ◌≤◌, ◌<◌}
use native.Mathlib.Omega.{arith}
use mathlib.Core.Path.{◌≡◌, refl, sym, ap, ◌∙◌}
use mathlib.Core.List.{List, [], ◌∷◌}
use lib.ListN.{length, get_or, drop, drop_of_length-le}
use Rattle.base.specs.Lists.{Within}
use Rattle.base.proofs.StoreLaws.{rest_one}
use Rattle.base.proofs.WithinLaws.{within_at}

-- `run s ps` is the result of taking the places into the state s
pub record Pass {A : Type 0} (run : A → List ℕ → A) (n : ℕ) (ps : List ℕ) (start s : A) (i : ℕ) : Type 0 where
  pub within : Within n ps
  pub upto : i ≤ length ps
  pub rest : run s (drop i ps) ≡ run start ps

module _ {A : Type 0} (run : A → List ℕ → A) (n : ℕ) (ps : List ℕ) (start : A) where
  pub begin : Within n ps → Pass run n ps start start 0
  begin w = record { within = w; upto = omega arith; rest = refl }

  -- the place at i was taken
  pub taken : (s t : A) (i : ℕ) → Pass run n ps start s i → i < length ps → run t (drop (i + 1) ps) ≡ run s (get_or ps i 0 ∷ drop (i + 1) ps)
      → Pass run n ps start t (i + 1)
  taken s t i q h e =
      record { within = q.within; upto = omega arith; rest = e ∙ ap (run s) (sym (rest_one ps i h)) ∙ q.rest }

  -- none is left
  pub finished : (s : A) (i : ℕ) → Pass run n ps start s i → length ps ≤ i → run s [] ≡ run start ps
  finished s i q h = ap (run s) (sym (drop_of_length-le ps h)) ∙ q.rest

  pub next_within : (s : A) (i : ℕ) → Pass run n ps start s i → i < length ps → 7 * get_or ps i 0 + 7 ≤ n
  next_within s i q h = within_at n ps i q.within h
