-- Links by their meaning (specs/Meaning): the sides of one key are those on one edge, in rising order; and the link of a side is what 01 says, and no other
-- number is. By the list of the sides on its edge: one side, or two and more of which the side is the first or a later one.
use Prim.Native.Nat.{ℕ, ◌+◌, ◌*◌, ◌/◌, ◌≤◌, ◌<◌}
use native.Mathlib.Omega.{arith}
use mathlib.Core.Bool.{Bool, true, false, true≢false}
use mathlib.Core.List.{List, [], ◌∷◌}
use mathlib.Core.Logic.{inl, ⊎_elim}
use mathlib.Core.Path.{◌≡◌, refl, sym, ap, ap₂, subst, ◌∙◌}
use lib.Dec.{eqb}
use lib.ListN.{length, get_or}
use borrow.Author.Tests.{eqb-true, eqb-false}
use Rattle.base.proofs.EveryLaws.{every_sift}
use Rattle.base.proofs.ListLaws.{among_head, among_tail, among_cases}
use Rattle.base.specs.Lists.{Among, up_from}
use Rattle.corners.proofs.CornerLaws.{length_corners}
use Rattle.corners.proofs.LinkLaws.{corners_hold}
use Rattle.corners.specs.Corners.{none, next_of, there, Corners, corners_of}
use Rattle.sides.specs.Links.{same_as, link_of, links_of}
use Rattle.sides.specs.Lists.{with_key, RisingBy}
use Rattle.sides.specs.Meaning.{IsSide, OnEdge, FirstOn, NextOn, LinkMeaning}
use Rattle.sides.specs.Sides.{pair_of, key_of, sides_of}
use Rattle.sides.proofs.EveryOf.{every_among, every_of, every_passes}
use Rattle.sides.proofs.Meaning.{either_way, same_corners, link_at, no_side, link_alone, link_of_first, link_of_later}
use Rattle.sides.proofs.RisingLaws.{rising_sift}
use Rattle.sides.proofs.SiftLaws.{occurs_with}
use Rattle.sides.proofs.UpFromLaws.{every_counting, among_counting, counting_rises}

-- ---- which sides lie on an edge

module _ (cs : List ℕ) where
  pub among_sides : (s : ℕ) → IsSide cs s → Among s (sides_of cs)
  among_sides s i = among_counting (there cs) s 0 (length cs) (omega arith) (omega (arith, i.within)) i.of_triangle

  pub side_among : (s : ℕ) → Among s (sides_of cs) → IsSide cs s
  side_among s m =
      let bounds = every_sift (λ t. t < 0 + length cs) (there cs) (up_from 0 (length cs)) (every_counting 0 (length cs)) in
      record {
        within = omega (arith, every_among (λ t. t < 0 + length cs) s (sides_of cs) bounds m);
        of_triangle = every_among (λ t. there cs t ≡ true) s (sides_of cs) (every_passes (there cs) (up_from 0 (length cs))) m;
      }

  -- The sides on the edge of s stand in rising order.
  pub edge_rises : (s : ℕ) → RisingBy (λ t. t) (same_as cs s)
  edge_rises s =
      rising_sift (λ t. t) (λ t. eqb (key_of cs t) (key_of cs s)) (sides_of cs)
      (rising_sift (λ t. t) (there cs) (up_from 0 (length cs)) (counting_rises 0 (length cs)))

  pub one_key : (s t : ℕ) → OnEdge cs s t → key_of cs t ≡ key_of cs s
  unfolding key_of
  one_key s t o =
      ⊎_elim (λ e. ap₂ pair_of e.0 e.1) (λ e. ap₂ pair_of e.0 e.1 ∙ either_way (get_or cs (next_of s) 0) (get_or cs s 0)) o.corners

  -- Whatever lies on the edge of s is among the sides of its key.
  pub on_edge_same : (s t : ℕ) → OnEdge cs s t → Among t (same_as cs s)
  on_edge_same s t o =
      subst (λ (k : ℕ). Among t (with_key (key_of cs) k (sides_of cs))) (one_key s t o)
      (omega (arith, occurs_with (key_of cs) t (sides_of cs), among_sides t o.other))

  module _ (c : Corners cs) where
    pub one_edge : (s t : ℕ) → IsSide cs s → IsSide cs t → key_of cs t ≡ key_of cs s → OnEdge cs s t
    unfolding key_of
    one_edge s t i j e =
        let own = c.small s i.within i.of_triangle in
        let other = c.small t j.within j.of_triangle in
        record {
          own = i;
          other = j;
          corners =
              same_corners (get_or cs t 0) (get_or cs (next_of t) 0) (get_or cs s 0) (get_or cs (next_of s) 0) other.0 other.1 own.0 own.1 e;
        }

    -- And whatever is among them lies on it.
    pub same_on_edge : (s t : ℕ) → IsSide cs s → Among t (same_as cs s) → OnEdge cs s t
    same_on_edge s t i m =
        let sides = every_sift (λ u. IsSide cs u) (λ u. eqb (key_of cs u) (key_of cs s)) (sides_of cs) (every_of (IsSide cs) (sides_of cs) side_among) in
        one_edge s t i (every_among (IsSide cs) t (same_as cs s) sides m)
        (eqb-true _ _ (every_among (λ u. eqb (key_of cs u) (key_of cs s) ≡ true) t (same_as cs s) (every_passes _ (sides_of cs)) m))

-- ---- the link of a side

module _ (cs : List ℕ) (c : Corners cs) (s : ℕ) (within : s < length cs) where
  -- Whatever holds of the link in each of 01's three cases holds of it: one of them is there.
  pub by_edge : (P : ℕ → Type 0) → (((t : ℕ) → OnEdge cs s t → t ≡ s) → P none) → ((t : ℕ) → NextOn cs s t → P (t / 3))
      → ((f : ℕ) → FirstOn cs s f → f < s → P (f / 3)) → P (link_of cs s)
  by_edge P alone first later = by_side (there cs s) refl
    where
      by_list : there cs s ≡ true → OnEdge cs s s → (l : List ℕ) → same_as cs s ≡ l → RisingBy (λ t. t) l → ((t : ℕ) → OnEdge cs s t → Among t l)
          → ((t : ℕ) → Among t l → OnEdge cs s t) → P (link_of cs s)
      by_list is self [] e r to from = absurd (omega (arith, to s self))
      by_list is self (f ∷ []) e r to from =
          let only : (t : ℕ) → OnEdge cs s t → f ≡ t = λ t o. ⊎_elim (λ q. q) (λ m. absurd (omega arith)) (among_cases t f [] (to t o)) in
          subst P (sym (link_alone cs s is (e ∙ ap (λ (x : ℕ). x ∷ []) (only s self)))) (alone (λ t o. sym (only t o) ∙ only s self))
      by_list is self (f ∷ (g ∷ gs)) e r to from = by_first (eqb s f) refl
        where
          least : (u : ℕ) → OnEdge cs s u → f ≤ u
          least u o =
              ⊎_elim (λ q. omega arith) (λ m. omega (arith, every_among (λ t. f < t) u (g ∷ gs) r.0 m)) (among_cases u f (g ∷ gs) (to u o))

          nearest : (u : ℕ) → OnEdge cs s u → f < u → g ≤ u
          nearest u o h =
              ⊎_elim (λ q. absurd (omega arith))
              (λ m. ⊎_elim (λ q. omega arith) (λ k. omega (arith, every_among (λ t. g < t) u gs r.1.0 k)) (among_cases u g gs m))
              (among_cases u f (g ∷ gs) (to u o))

          by_first : (b : Bool) → eqb s f ≡ b → P (link_of cs s)
          by_first true t =
              let q : s ≡ f = eqb-true s f t in
              subst P (sym (link_of_first cs s g gs is (e ∙ ap (λ (x : ℕ). x ∷ (g ∷ gs)) (sym q))))
              (first g
              (record {
                first = record { on = self; least = λ u o. omega (arith, least u o) };
                on = from g (among_tail g f (g ∷ gs) (among_head g gs));
                behind = omega (arith, r.0.0);
                nearest = λ u o h. nearest u o (omega arith);
              }))
          by_first false t =
              let ne : s ≡ f → ⊥ = eqb-false s f t in
              subst P (sym (link_of_later cs s f g gs is e ne))
              (later f (record { on = from f (among_head f (g ∷ gs)); least = least }) (omega (arith, least s self)))

      by_side : (b : Bool) → there cs s ≡ b → P (link_of cs s)
      by_side true e =
          let i : IsSide cs s = record { within = within; of_triangle = e } in
          by_list e (record { own = i; other = i; corners = inl (refl, refl) }) (same_as cs s) refl (edge_rises cs s) (on_edge_same cs s)
          (λ t. same_on_edge cs c s t i)
      by_side false e = subst P (sym (no_side cs s e)) (alone (λ t o. absurd (true≢false (sym o.own.of_triangle ∙ e))))

  -- The link of every side is what 01 says of it.
  pub link_by_meaning : LinkMeaning cs s (link_of cs s)
  link_by_meaning =
      by_edge (LinkMeaning cs s)
      (λ h.
      record {
        alone = λ k. refl;
        first = λ t n. absurd (omega (arith, h t n.on, n.behind));
        later = λ f o b. absurd (omega (arith, h f o.on, b));
      })
      (λ t n.
      record {
        alone = λ h. absurd (omega (arith, h t n.on, n.behind));
        first = λ u m. ap (λ (x : ℕ). x / 3) (omega (arith, n.nearest u m.on m.behind, m.nearest t n.on n.behind));
        later = λ f o b. absurd (omega (arith, n.first.least f o.on, b));
      })
      (λ f o b.
      record {
        alone = λ h. absurd (omega (arith, h f o.on, b));
        first = λ t n. absurd (omega (arith, n.first.least f o.on, b));
        later = λ g p c. ap (λ (x : ℕ). x / 3) (omega (arith, o.least g p.on, p.least f o.on));
      })

  -- And no other number is.
  pub link_by_meaning_only : (l : ℕ) → LinkMeaning cs s l → l ≡ link_of cs s
  link_by_meaning_only l m = by_edge (λ x. l ≡ x) m.alone m.first m.later

-- ---- of records

-- The links that are made from polygon records, three for each polygon, are what 01 says of their corners. In the bytes of linked records: edges RecordLinks.
pub record_links_by_meaning : (n : ℕ) (bytes : List ℕ) → n ≤ 32767 → (s : ℕ) → s < 3 * n
    → LinkMeaning (corners_of n bytes) s (get_or (links_of (corners_of n bytes)) s 0)
record_links_by_meaning n bytes few s h =
    let cs = corners_of n bytes in
    let within : s < length cs = omega (arith, length_corners n bytes) in
    subst (LinkMeaning cs s) (sym (link_at cs s within)) (link_by_meaning cs (corners_hold n bytes few) s within)
