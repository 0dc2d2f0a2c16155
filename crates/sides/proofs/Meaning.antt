-- What the definitions mean: two sides have one key where they have the same two corners, in either direction; and for every side, what its
-- link is: none where it is alone on its edge, the first's is the second's polygon, and each other's the first's. By cases of the tests.
use Prim.Native.Nat.{ℕ, ◌+◌, ◌*◌, ◌/◌, ◌≤◌, ◌<◌}
use native.Mathlib.Omega.{arith}
use native.Mathlib.Nat.{zero-add}
use mathlib.Core.Path.{◌≡◌, refl, ap, ◌∙◌}
use mathlib.Core.Logic.{◌⊎◌, inl, inr}
use mathlib.Core.Bool.{Bool, true, false, cond}
use mathlib.Core.List.{List, [], ◌∷◌}
use lib.Dec.{ltb}
use lib.ListN.{length, get_or}
use borrow.Author.Tests.{eq-eqb, ne_eqb, ltb-true, ltb-false}
use Rattle.corners.specs.Corners.{none, there, corners_of, links_put}
use Rattle.corners.proofs.LinkLaws.{links_forget}
use Rattle.sides.specs.Sides.{pair_of}
use Rattle.sides.specs.Links.{link_among, same_as, link_of, links_of}
use Rattle.sides.proofs.UpFromLaws.{map_counting}

-- ---- an edge has no direction

pub either_way : (a b : ℕ) → pair_of a b ≡ pair_of b a
unfolding pair_of
either_way a b = go (ltb a b) (ltb b a) refl refl
  where
    go : (t u : Bool) → ltb a b ≡ t → ltb b a ≡ u → cond t (a * 32768 + b) (b * 32768 + a) ≡ cond u (b * 32768 + a) (a * 32768 + b)
    go true true e f = absurd (omega (arith, ltb-true a b e, ltb-true b a f))
    go true false e f = refl
    go false true e f = refl
    go false false e f = omega (arith, ltb-false a b e, ltb-false b a f)

pub same_corners : (a b c d : ℕ) → a < 32768 → b < 32768 → c < 32768 → d < 32768 → pair_of a b ≡ pair_of c d
    → ((a ≡ c) × (b ≡ d)) ⊎ ((a ≡ d) × (b ≡ c))
unfolding pair_of
same_corners a b c d ha hb hc hd = go (ltb a b) (ltb c d)
  where
    go : (t u : Bool) → cond t (a * 32768 + b) (b * 32768 + a) ≡ cond u (c * 32768 + d) (d * 32768 + c)
        → ((a ≡ c) × (b ≡ d)) ⊎ ((a ≡ d) × (b ≡ c))
    go true true e = inl (omega arith, omega arith)
    go true false e = inr (omega arith, omega arith)
    go false true e = inr (omega arith, omega arith)
    go false false e = inl (omega arith, omega arith)

-- ---- the link of every side

module _ (cs : List ℕ) (s : ℕ) where
  pub link_at : s < length cs → get_or (links_of cs) s 0 ≡ link_of cs s
  link_at h = map_counting (link_of cs) 0 (length cs) s h ∙ ap (link_of cs) (zero-add s)

  pub no_side : there cs s ≡ false → link_of cs s ≡ none
  unfolding link_of
  no_side e = rw e

  pub link_alone : there cs s ≡ true → same_as cs s ≡ s ∷ [] → link_of cs s ≡ none
  unfolding link_of
  link_alone e f = rw e (ap (link_among s) f)

  pub link_of_first : (g : ℕ) (gs : List ℕ) → there cs s ≡ true → same_as cs s ≡ s ∷ (g ∷ gs) → link_of cs s ≡ g / 3
  unfolding link_of
  link_of_first g gs e f = rw e (ap (link_among s) f ∙ ap (λ (b : Bool). cond b (g / 3) (s / 3)) (eq-eqb s s refl))

  pub link_of_later : (f g : ℕ) (gs : List ℕ) → there cs s ≡ true → same_as cs s ≡ f ∷ (g ∷ gs) → (s ≡ f → ⊥) → link_of cs s ≡ f / 3
  unfolding link_of
  link_of_later f g gs e q ne = rw e (ap (link_among s) q ∙ ap (λ (b : Bool). cond b (g / 3) (f / 3)) (ne_eqb s f ne))

-- The links that the records came with do not matter: nor do those of an earlier pass, which a second pass finds.
pub forgets : (n : ℕ) (links bytes : List ℕ) → 16 * n ≤ length bytes → links_of (corners_of n (links_put n links bytes)) ≡ links_of (corners_of n bytes)
forgets n links bytes h = ap links_of (links_forget n links bytes h)
