-- What a side is linked to among sides that rise by key: a later one to the first, and the first to the next one, if it has its key.
use Prim.Native.Nat.{ℕ, suc, ◌+◌, ◌/◌, ◌≤◌, ◌<◌}
use native.Mathlib.Omega.{arith}
use native.Mathlib.Numerals.{add-one}
use mathlib.Core.Path.{◌≡◌, refl, sym, ap, ◌∙◌}
use mathlib.Core.Bool.{Bool, true, false, cond}
use mathlib.Core.List.{List, [], ◌∷◌, ◌++◌}
use lib.Dec.{eqb}
use lib.ListN.{length, get_or, drop, drop_of_length-le}
use lib.Seq.{drop-cons}
use borrow.Author.Tests.{eqb-false, eq-eqb, ne_eqb}
use Rattle.sides.specs.Lists.{with_key, RisingBy}
use Rattle.base.specs.Every.{Every}
use Rattle.corners.specs.Corners.{none}
use Rattle.sides.specs.Links.{link_among}
use Rattle.sides.specs.Steps.Linked.{link_of_first}
use Rattle.sides.specs.Steps.Grouped.{code_of}
use Rattle.sides.proofs.EveryOf.{every_map, every_both}
use Rattle.sides.proofs.SiftLaws.{sift_none}

-- a side behind the first is linked to the first's polygon
pub link_behind : (s f : ℕ) (fs ts : List ℕ) → (s ≡ f → ⊥) → link_among s ((f ∷ fs) ++ (s ∷ ts)) ≡ f / 3
link_behind s f [] ts ne = rw (ne_eqb s f ne)
link_behind s f (g ∷ gs) ts ne = rw (ne_eqb s f ne)

module _ (key : ℕ → ℕ) where
  pub keys_rise : (s t : ℕ) → t < 131072 → code_of key s < code_of key t → key s ≤ key t
  keys_rise s t b h = omega arith

  pub link_first : (s : ℕ) (ts : List ℕ) → Every (λ t. t < 131072) ts → RisingBy (code_of key) (s ∷ ts)
      → link_among s (s ∷ with_key key (key s) ts) ≡ link_of_first key (s ∷ ts)
  link_first s [] w r = refl
  link_first s (t ∷ ts) w r = go (eqb (key t) (key s)) refl
    where
      go : (b : Bool) → eqb (key t) (key s) ≡ b → link_among s (s ∷ with_key key (key s) (t ∷ ts)) ≡ cond b (t / 3) none
      go true e = rw (e, eq-eqb s s refl)
      go false e =
          let ne : key t ≡ key s → ⊥ = eqb-false (key t) (key s) e in
          let st : key s < key t = omega (arith, keys_rise s t w.0 r.0.0, ne) in
          let behind = every_both (λ u. u < 131072) (λ u. code_of key t < code_of key u) ts w.1 r.1.0 in
          let later : Every (λ u. eqb (key u) (key s) ≡ false) ts =
          every_map (λ u. (u < 131072) × (code_of key t < code_of key u)) _ (λ u h. ne_eqb (key u) (key s) (λ q. omega (arith, keys_rise t u h.0 h.1)))
          ts behind in
          rw e (ap (λ (l : List ℕ). link_among s (s ∷ l)) (sift_none (λ u. eqb (key u) (key s)) ts later))

-- ---- the first one's link, as the code finds it

module _ (key : ℕ → ℕ) (ss : List ℕ) (i : ℕ) where
  pub alone : i < length ss → length ss ≤ i + 1 → none ≡ link_of_first key (drop i ss)
  alone h l = rw (drop-cons ss i 0 h, drop_of_length-le ss {i = suc i} (omega arith))

  two_here : i + 1 < length ss → drop i ss ≡ get_or ss i 0 ∷ (get_or ss (i + 1) 0 ∷ drop (suc (i + 1)) ss)
  two_here h = drop-cons ss i 0 (omega arith) ∙ ap (λ (l : List ℕ). get_or ss i 0 ∷ l) (ap (λ (n : ℕ). drop n ss) (sym (add-one i)) ∙ drop-cons ss (i + 1) 0 h)

  pub with_next : i + 1 < length ss → key (get_or ss (i + 1) 0) ≡ key (get_or ss i 0) → get_or ss (i + 1) 0 / 3 ≡ link_of_first key (drop i ss)
  with_next h e = rw (two_here h, eq-eqb (key (get_or ss (i + 1) 0)) (key (get_or ss i 0)) e)

  pub without_next : i + 1 < length ss → (key (get_or ss (i + 1) 0) ≡ key (get_or ss i 0) → ⊥) → none ≡ link_of_first key (drop i ss)
  without_next h e = rw (two_here h, ne_eqb (key (get_or ss (i + 1) 0)) (key (get_or ss i 0)) e)
