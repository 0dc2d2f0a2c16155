-- From the corners to the links: what the sides are, that they may be grouped, and that their links are the links.
use Prim.Native.Nat.{ℕ, zero, suc, ◌+◌, ◌≤◌, ◌<◌}
use native.Mathlib.Omega.{arith}
use native.Mathlib.Nat.{zero-add}
use mathlib.Core.Path.{◌≡◌, refl, sym, ap, ap₂, ◌∙◌}
use mathlib.Core.Bool.{Bool, true, false, cond, true≢false}
use mathlib.Core.List.{List, [], ◌∷◌}
use lib.Dec.{eqb}
use lib.ListN.{length, get_or, take, length-map}
use lib.Seq.{length-take-le, get_or-take, ext_get_or}
use Rattle.base.specs.Lists.{occurrences, Among, up_from}
use Rattle.sides.specs.Lists.{with_key, RisingBy}
use Rattle.base.specs.Every.{Every}
use Rattle.corners.specs.Corners.{none, there, Corners}
use Rattle.sides.specs.Sides.{key_of, sides_of}
use Rattle.sides.specs.Links.{link_among, same_as, link_of, links_of}
use Rattle.sides.specs.Steps.Linked.{Linked}
use Rattle.sides.specs.Steps.Grouped.{key_in, Keyed, Sides, Grouped}
use Rattle.base.proofs.EveryLaws.{every_sift}
use Rattle.sides.proofs.EveryOf.{every_map, every_both, every_passes, every_of, every_among}
use Rattle.sides.proofs.SiftLaws.{occurs_same}
use Rattle.sides.proofs.RisingLaws.{rising_sift}
use Rattle.sides.proofs.SideLaws.{key_below}
use Rattle.base.proofs.NumberLaws.{length_up}
use Rattle.sides.proofs.UpFromLaws.{map_counting, every_counting, among_counting, counting_rises}

-- ---- the sides that are grouped are the sides

module _ (key : ℕ → ℕ) (ss gs : List ℕ) (g : Grouped key ss gs) where
  as_often : (s : ℕ) → occurrences s gs ≡ occurrences s ss
  as_often = occurs_same key gs ss g.same

  pub every_grouped : (P : ℕ → Type 0) → Every P ss → Every P gs
  every_grouped P w = every_of P gs (λ s h. every_among P s ss w (omega (arith, as_often s)))

  pub linked_grouped : (before after : List ℕ) → Linked key gs before after → Linked key ss before after
  linked_grouped before after l =
      record {
        linked = every_of (λ s. get_or after s 0 ≡ link_among s (with_key key (key s) ss)) ss
            (λ s h. among_grouped s (omega (arith, as_often s)) ∙ ap (link_among s) (g.same s));
        others = λ s o. l.others s (as_often s ∙ o);
      }
    where
      among_grouped : (s : ℕ) → Among s gs → get_or after s 0 ≡ link_among s (with_key key (key s) gs)
      among_grouped s h = every_among (λ t. get_or after t 0 ≡ link_among t (with_key key (key t) gs)) s gs l.linked h

pub sides_grouped : (keys ss gs : List ℕ) → Grouped (key_in keys) ss gs → length gs ≡ length ss → Sides keys ss → Sides keys gs
sides_grouped keys ss gs g l w = record { few = omega (arith, w.few); keyed = every_grouped (key_in keys) ss gs g (Keyed keys) w.keyed }

-- ---- the sides

module _ (cs : List ℕ) (c : Corners cs) where
  in_corners : Every (λ s. s < length cs) (sides_of cs)
  in_corners =
      let all = every_map (λ s. s < 0 + length cs) (λ s. s < length cs) (λ s h. omega arith) (up_from 0 (length cs)) (every_counting 0 (length cs)) in
      every_sift (λ s. s < length cs) (there cs) (up_from 0 (length cs)) all

  pub sides_within : (n : ℕ) → length cs ≤ n → Every (λ s. s < n) (sides_of cs)
  sides_within n h = every_map (λ s. s < length cs) (λ s. s < n) (λ s k. omega arith) (sides_of cs) in_corners

  pub sides_rise : RisingBy (λ s. s) (sides_of cs)
  sides_rise = rising_sift (λ s. s) (there cs) (up_from 0 (length cs)) (counting_rises 0 (length cs))

  module _ (keys : List ℕ) (l : length cs ≤ length keys) (ks : (s : ℕ) → s < length cs → get_or keys s 0 ≡ key_of cs s) where
    pub sides_keyed : Every (Keyed keys) (sides_of cs)
    sides_keyed =
        every_map (λ s. (s < length cs) × (there cs s ≡ true)) (Keyed keys)
        (λ s h. record { within = omega (arith, h.0); number = omega (arith, h.0, c.few); key = rw (ks s h.0) (key_below cs c s h.0 h.1) })
        (sides_of cs)
        (every_both (λ s. s < length cs) (λ s. there cs s ≡ true) (sides_of cs) in_corners (every_passes (there cs) (up_from 0 (length cs))))

  -- by keys that are those of the sides
  module _ (key : ℕ → ℕ) (ks : (s : ℕ) → s < length cs → key s ≡ key_of cs s) where
    alike : (k : ℕ) (ss : List ℕ) → Every (λ s. s < length cs) ss → with_key key k ss ≡ with_key (key_of cs) k ss
    alike k [] w = refl
    alike k (s ∷ ss) w = ap₂ (λ (b : Bool) (l : List ℕ). cond b (s ∷ l) l) (ap (λ (q : ℕ). eqb q k) (ks s w.0)) (alike k ss w.1)

    module _ (before after : List ℕ) (no : (s : ℕ) → s < length cs → get_or before s 0 ≡ none) (g : Linked key (sides_of cs) before after) where
      link_is : (s : ℕ) → s < length cs → get_or after s 0 ≡ link_of cs s
      unfolding link_of
      link_is s h = go (there cs s) refl
        where
          go : (b : Bool) → there cs s ≡ b → get_or after s 0 ≡ cond b (link_among s (same_as cs s)) none
          go true e =
              every_among (λ t. get_or after t 0 ≡ link_among t (with_key key (key t) (sides_of cs))) s (sides_of cs) g.linked
              (among_counting (there cs) s 0 (length cs) (omega arith) (omega arith) e)
              ∙ ap (link_among s) (alike (key s) (sides_of cs) in_corners ∙ ap (λ (k : ℕ). with_key (key_of cs) k (sides_of cs)) (ks s h))
          go false e = g.others s (absent (occurrences s (sides_of cs)) refl) ∙ no s h
            where
              absent : (n : ℕ) → occurrences s (sides_of cs) ≡ n → n ≡ 0
              absent zero q = refl
              absent (suc n) q = absurd (true≢false
                  (sym (every_among (λ t. there cs t ≡ true) s (sides_of cs) (every_passes (there cs) (up_from 0 (length cs))) (omega (arith, q))) ∙ e))

      pub links_are : length cs ≤ length after → take (length cs) after ≡ links_of cs
      links_are m =
          let n : length (take (length cs) after) ≡ length cs = length-take-le (length cs) after m in
          ext_get_or 0 (take (length cs) after) (links_of cs)
          (n ∙ sym (length-map (up_from 0 (length cs)) (link_of cs) ∙ length_up 0 (length cs)))
          (λ s h. get_or-take (length cs) after s 0 (omega (arith, n)) ∙ link_is s (omega (arith, n)) ∙ ap (link_of cs) (sym (zero-add s))
          ∙ sym (map_counting (link_of cs) 0 (length cs) s (omega (arith, n))))
