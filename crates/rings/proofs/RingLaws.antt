-- The walk around a vertex: it stays among the polygons, and what is written, followed by the rest of the walk, is the whole ring.
use mathlib.Core.Bool.{Bool, true, false, cond}
use Prim.Native.Nat.{ℕ, zero, suc, ◌+◌, ◌-◌, ◌*◌, ◌/◌, ◌≤◌, ◌<◌}
use native.Mathlib.Omega.{arith}
use native.Mathlib.Numerals.{add-one}
use mathlib.Core.Path.{◌≡◌, refl, sym, ap, ◌∙◌}
use mathlib.Core.Logic.{inl, inr, ⊎_elim}
use mathlib.Core.List.{List, [], ◌∷◌, ◌++◌, append_assoc, append-nil}
use lib.Dec.{eqb}
use lib.ListN.{length, get_or, take, set, length-set}
use lib.Seq.{length-take-le, take-suc-set}
use borrow.Author.Tests.{eqb-false, eq-eqb, ne_eqb}
use Rattle.rings.specs.declared.ring.Walker.{Walker}
use Rattle.corners.specs.Corners.{none, next_of}
use Rattle.sides.proofs.SideLaws.{leads_within}
use Rattle.rings.specs.Firsts.{no_side}
use Rattle.rings.proofs.SideLaws.{side_to_in}
use Rattle.rings.specs.Rings.{side_to, other_link, arrived, onward, ring_from, first_link, ring_of}
use Rattle.rings.specs.Steps.Stored.{Linked, Neighbour, Begins}

-- ---- the walk stays among the polygons

either : {n x y : ℕ} (b : Bool) → Neighbour n x → Neighbour n y → Neighbour n (cond b x y)
either true p q = p
either false p q = q

module _ {corners links : List ℕ} {n : ℕ} (fits : Linked corners links n) where
  next_in : (s : ℕ) → s < 3 * n → next_of s < 3 * n
  next_in s h = leads_within s (3 * n) h (omega arith)

  pub first_place : (s : ℕ) → s < 3 * n → Neighbour n (first_link links s)
  first_place s h =
      either (eqb (get_or links (next_of (next_of s)) 0) none) (fits.within s h) (fits.within (next_of (next_of s)) (next_in (next_of s) (next_in s h)))

  pub onward_place : (v poly : ℕ) (w : Walker) → w.at < n → Neighbour n (onward corners links v poly w).at
  unfolding onward
  onward_place v poly w h = go (eqb (side_to corners w.at v) no_side) refl
    where
      go : (b : Bool) → eqb (side_to corners w.at v) no_side ≡ b
          → Neighbour n (cond b w (arrived poly w.at (other_link links (side_to corners w.at v) w.prev))).at
      go true e = inr h
      go false e =
          let s = side_to corners w.at v in
          let in-poly : s / 3 ≡ w.at = ⊎_elim (λ no. absurd (eqb-false s no_side e no)) (λ same. same) (side_to_in corners w.at v) in
          let here : s < 3 * n = omega arith in
          either (eqb (other_link links s w.prev) poly) (inl refl)
          (either (eqb (get_or links s 0) w.prev) (fits.within (next_of s) (next_in s here)) (fits.within s here))

-- ---- one step of the definition

module _ (corners links : List ℕ) (v poly : ℕ) where
  pub ring_ended : (left : ℕ) (w : Walker) → w.at ≡ none → ring_from corners links v poly left w ≡ []
  unfolding ring_from
  ring_ended zero w e = refl
  ring_ended (suc left) w e = rw (eq-eqb w.at none e)

  pub ring_more : (left : ℕ) (w : Walker) → (w.at ≡ none → ⊥) → ring_from corners links v poly (suc left) w
      ≡ w.at ∷ ring_from corners links v poly left (onward corners links v poly w)
  unfolding ring_from
  ring_more left w e = rw (ne_eqb w.at none e)

  ring_none : (w : Walker) → ring_from corners links v poly 0 w ≡ []
  unfolding ring_from
  ring_none w = refl

  -- What is written of the ring xs, and where the walk is.
  pub record Ringing (n : ℕ) (xs before out : List ℕ) (w : Walker) (count : ℕ) : Type 0 where
    pub place : Neighbour n w.at
    pub upto : count ≤ 63
    pub same_length : length out ≡ length before
    pub whole : take count out ++ ring_from corners links v poly (63 - count) w ≡ xs

  module _ (n : ℕ) (xs before out : List ℕ) (w : Walker) (count : ℕ) (room : 63 ≤ length before) (g : Ringing n xs before out w count) where
    written : ring_from corners links v poly (63 - count) w ≡ [] → Begins xs out count
    written e =
        let all : take count out ≡ xs = sym (append-nil (take count out)) ∙ ap (λ (r : List ℕ). take count out ++ r) (sym e) ∙ g.whole in
        record { numbers = all; count = sym (length-take-le count out (omega (arith, g.same_length, g.upto))) ∙ ap length all }

    pub ended : w.at ≡ none → Begins xs out count
    ended e = written (ring_ended (63 - count) w e)

    pub filled : 63 ≤ count → Begins xs out count
    filled h =
        let z : 63 - count ≡ 0 = omega arith in
        written (ap (λ (k : ℕ). ring_from corners links v poly k w) z ∙ ring_none w)

    pub here : (w.at ≡ none → ⊥) → w.at < n
    here e = ⊎_elim (λ p. absurd (e p)) (λ p. p) g.place

    pub again : Linked corners links n → count < 63 → (w.at ≡ none → ⊥)
        → Ringing n xs before (set out count w.at) (onward corners links v poly w) (count + 1)
    again fits h e =
        let left : 63 - count ≡ suc (63 - (count + 1)) = omega arith in
        let one : take (count + 1) (set out count w.at) ≡ take count out ++ (w.at ∷ []) =
        rw add-one (take-suc-set out count w.at (omega (arith, g.same_length))) in
        let rest = ring_from corners links v poly (63 - (count + 1)) (onward corners links v poly w) in
        record {
          place = onward_place fits v poly w (here e);
          upto = omega arith;
          same_length = length-set out count w.at ∙ g.same_length;
          whole =
              ap (λ (l : List ℕ). l ++ rest) one
              ∙ append_assoc (take count out) (w.at ∷ []) rest
              ∙ ap (λ (l : List ℕ). take count out ++ l) (sym (ap (λ (k : ℕ). ring_from corners links v poly k w) left ∙ ring_more (63 - (count + 1)) w e))
              ∙ g.whole;
        }

pub begun : (corners links : List ℕ) (v n s : ℕ) (before : List ℕ) → Linked corners links n → s < 3 * n
    → Ringing corners links v (s / 3) n (ring_of corners links v s) before before (record { prev = s / 3; at = first_link links s }) 0
unfolding ring_of
begun corners links v n s before fits h = record { place = first_place fits s h; upto = omega arith; same_length = refl; whole = refl }
