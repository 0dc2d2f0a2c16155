-- Chains of sides: a store beside a chain leaves it, what leads to one is small, two that begin alike are the same, and one more side in front.
use Prim.Native.Nat.{ℕ, ◌+◌, ◌*◌, ◌/◌, ◌%◌, ◌<◌}
use native.Mathlib.Omega.{arith}
use mathlib.Core.Path.{◌≡◌, refl, sym, ap, ap₂, subst, ◌∙◌}
use mathlib.Core.Bool.{Bool, true, false}
use mathlib.Core.List.{List, [], ◌∷◌}
use lib.Dec.{eqb}
use lib.ListN.{length, get_or, set, length-set}
use lib.Seq.{get_or-set_same, get_or-set_other}
use borrow.Author.Tests.{eqb-true, eqb-false}
use Rattle.base.specs.Every.{Every}
use Rattle.base.proofs.EveryLaws.{every_sift}
use Rattle.sides.specs.Lists.{with_key}
use Rattle.side_chains.specs.Steps.Chains.{low_of, high_of, high_in, behind_in, Chain, Chained}
use Rattle.sides.proofs.EveryOf.{every_map, every_both}
use Rattle.sides.proofs.SiftLaws.{sift_front, sift_past}

pub chain_beside : (nexts : List ℕ) (s x e : ℕ) (ts : List ℕ) → Every (λ t. s < t) ts → Chain nexts e ts → Chain (set nexts s x) e ts
chain_beside nexts s x e [] w c = c
chain_beside nexts s x e (t ∷ ts) w c =
    let same : behind_in nexts t ≡ behind_in (set nexts s x) t = ap (λ (n : ℕ). n % 131072) (sym (get_or-set_other nexts s t x 0 (λ q. omega (arith, w.0)))) in
    (c.0, subst (λ (b : ℕ). Chain (set nexts s x) b ts) same (chain_beside nexts s x (behind_in nexts t) ts w.1 c.1))

pub leads_small : (nexts : List ℕ) (e : ℕ) (ts : List ℕ) → Every (λ t. t + 1 < 131072) ts → Chain nexts e ts → e < 131072
leads_small nexts e [] w c = omega (arith, c)
leads_small nexts e (t ∷ ts) w c = omega (arith, c.0, w.0)

pub chain_same : (nexts : List ℕ) (e : ℕ) (ss ts : List ℕ) → Chain nexts e ss → Chain nexts e ts → ss ≡ ts
chain_same nexts e [] [] c d = refl
chain_same nexts e [] (t ∷ ts) c d = absurd (omega (arith, c, d.0))
chain_same nexts e (s ∷ ss) [] c d = absurd (omega (arith, c.0, d))
chain_same nexts e (s ∷ ss) (t ∷ ts) c d =
    let q : s ≡ t = omega (arith, c.0, d.0) in
    let rest = subst (λ (n : ℕ). Chain nexts (behind_in nexts n) ts) (sym q) d.1 in
    ap₂ (λ (n : ℕ) (l : List ℕ). n ∷ l) q (chain_same nexts (behind_in nexts s) ss ts c.1 rest)

-- ---- one more side in front

module _ (key : ℕ → ℕ) (s : ℕ) (ss heads nexts : List ℕ) (g : Chained key ss heads nexts) (later : Every (λ t. s < t) ss)
    (small : Every (λ t. t + 1 < 131072) ss) (low : low_of key s < length heads) (room : s < length nexts) where
  abbrev head : ℕ
  head = get_or heads (low_of key s) 0

  abbrev packed : ℕ
  packed = high_of key s * 131072 + head

  abbrev heads' : List ℕ
  heads' = set heads (low_of key s) (s + 1)

  abbrev nexts' : List ℕ
  nexts' = set nexts s packed

  head_small : head < 131072
  head_small = leads_small nexts head (with_key (low_of key) (low_of key s) ss)
      (every_sift (λ t. t + 1 < 131072) (λ t. eqb (low_of key t) (low_of key s)) ss small) (g.chains (low_of key s) low)

  own : get_or nexts' s 0 ≡ packed
  own = get_or-set_same nexts s packed 0 room

  beside : (a : ℕ) → a < length heads → Chain nexts' (get_or heads a 0) (with_key (low_of key) a ss)
  beside a h = chain_beside nexts s packed (get_or heads a 0) (with_key (low_of key) a ss)
      (every_sift (λ t. s < t) (λ t. eqb (low_of key t) a) ss later) (g.chains a h)

  chain_of : (a : ℕ) → a < length heads' → Chain nexts' (get_or heads' a 0) (with_key (low_of key) a (s ∷ ss))
  chain_of a k = go (eqb (low_of key s) a) refl
    where
      h : a < length heads
      h = omega (arith, length-set heads (low_of key s) (s + 1))

      go : (b : Bool) → eqb (low_of key s) a ≡ b → Chain nexts' (get_or heads' a 0) (with_key (low_of key) a (s ∷ ss))
      go true e =
          let q : low_of key s ≡ a = eqb-true (low_of key s) a e in
          let front : get_or heads' a 0 ≡ s + 1 = ap (λ (n : ℕ). get_or heads' n 0) (sym q) ∙ get_or-set_same heads (low_of key s) (s + 1) 0 low in
          let behind : behind_in nexts' s ≡ get_or heads a 0 =
          ap (λ (n : ℕ). n % 131072) own ∙ omega (arith, head_small, ap (λ (n : ℕ). get_or heads n 0) q) in
          rw (sift_front (λ t. eqb (low_of key t) a) s ss e) (front, subst (λ (n : ℕ). Chain nexts' n (with_key (low_of key) a ss)) (sym behind) (beside a h))
      go false e =
          let ne : low_of key s ≡ a → ⊥ = eqb-false (low_of key s) a e in
          let q : get_or heads' a 0 ≡ get_or heads a 0 = get_or-set_other heads (low_of key s) a (s + 1) 0 (λ p. ne (sym p)) in
          rw (sift_past (λ t. eqb (low_of key t) a) s ss e) (subst (λ (n : ℕ). Chain nexts' n (with_key (low_of key) a ss)) (sym q) (beside a h))

  pub one_entered : Chained key (s ∷ ss) heads' nexts'
  one_entered =
      record {
        chains = chain_of;
        highs = (
          ap (λ (n : ℕ). n / 131072) own ∙ omega (arith, head_small),
          every_map (λ t. (s < t) × (high_in nexts t ≡ high_of key t))
              (λ t. high_in nexts' t ≡ high_of key t)
              (λ t w. ap (λ (n : ℕ). n / 131072) (get_or-set_other nexts s t packed 0 (λ q. omega (arith, w.0))) ∙ w.1) ss
              (every_both (λ t. s < t) (λ t. high_in nexts t ≡ high_of key t) ss later g.highs),
        );
      }
