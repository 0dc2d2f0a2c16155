-- The links of rule E2 are links among the polygons, as a ring asks: each is none, or the polygon of a side.
use Prim.Native.Nat.{ℕ, ◌+◌, ◌*◌, ◌/◌, ◌≤◌, ◌<◌}
use native.Mathlib.Omega.{arith}
use mathlib.Core.Path.{◌≡◌, refl, sym, ap, subst, ◌∙◌}
use mathlib.Core.Bool.{Bool, true, false, cond}
use mathlib.Core.List.{List, [], ◌∷◌}
use mathlib.Core.Logic.{inl, inr}
use lib.Dec.{eqb}
use lib.ListN.{length, get_or, take}
use lib.Seq.{get_or-take}
use Rattle.base.specs.Every.{Every}
use Rattle.base.specs.Lists.{up_from}
use Rattle.base.proofs.EveryLaws.{every_sift}
use Rattle.corners.specs.Corners.{none, there}
use Rattle.sides.specs.Links.{link_among, same_as, link_of, links_of}
use Rattle.sides.specs.Sides.{key_of, sides_of}
use Rattle.sides.proofs.UpFromLaws.{map_counting, every_counting}
use Rattle.rings.specs.Steps.Stored.{Neighbour, Linked}

module _ (cs : List ℕ) (n : ℕ) (size : length cs ≡ 3 * n) where
  -- the sides on an edge are sides of the n polygons
  same_below : (s : ℕ) → Every (λ t. t < 0 + length cs) (same_as cs s)
  same_below s =
      every_sift (λ t. t < 0 + length cs) (λ t. eqb (key_of cs t) (key_of cs s)) (sides_of cs)
      (every_sift (λ t. t < 0 + length cs) (there cs) (up_from 0 (length cs)) (every_counting 0 (length cs)))

  among_in : (s : ℕ) (ss : List ℕ) → Every (λ t. t < 0 + length cs) ss → Neighbour n (link_among s ss)
  among_in s [] h = inl refl
  among_in s (f ∷ []) h = inl refl
  among_in s (f ∷ (g ∷ gs)) h = go (eqb s f)
    where
      go : (b : Bool) → Neighbour n (cond b (g / 3) (f / 3))
      go true = let l = h.1.0 in inr (omega arith)
      go false = let l = h.0 in inr (omega arith)

  pub link_in : (s : ℕ) → Neighbour n (link_of cs s)
  unfolding link_of
  link_in s = go (there cs s)
    where
      go : (b : Bool) → Neighbour n (cond b (link_among s (same_as cs s)) none)
      go true = among_in s (same_as cs s) (same_below s)
      go false = inl refl

  -- What `links_of` of edges ensures is what a ring asks.
  pub links_serve : (links : List ℕ) → n < 32768 → 3 * n ≤ length links → take (length cs) links ≡ links_of cs → Linked cs links n
  links_serve links few room are =
      let link : (s : ℕ) → s < 3 * n → get_or links s 0 ≡ link_of cs s = λ s h.
      let z : 0 + s ≡ s = omega arith in
      sym (get_or-take (length cs) links s 0 (omega (arith, size)))
      ∙ ap (λ (l : List ℕ). get_or l s 0) are
      ∙ map_counting (link_of cs) 0 (length cs) s (omega (arith, size))
      ∙ ap (link_of cs) z in
      record { corners_in = omega (arith, size); links_in = room; few = few; within = λ s h. subst (Neighbour n) (sym (link s h)) (link_in s) }
