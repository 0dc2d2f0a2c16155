-- The loop of `link_chains`: the sides whose lower corner is below a are linked. Of a chain, those with one higher corner have one key.
use Prim.Native.Nat.{ℕ, zero, suc, ◌+◌, ◌*◌, ◌≤◌, ◌<◌}
use native.Mathlib.Omega.{arith}
use mathlib.Core.Path.{◌≡◌, refl, sym, ap, subst, ◌∙◌}
use mathlib.Core.Bool.{Bool, true, false, cond, true≢false}
use mathlib.Core.List.{List, [], ◌∷◌}
use lib.Dec.{eqb}
use lib.ListN.{length, get_or}
use borrow.Author.Tests.{eqb-true, eqb-false}
use Rattle.base.specs.Every.{Every}
use Rattle.base.specs.Lists.{occurrences, Among}
use Rattle.base.proofs.EveryLaws.{every_sift}
use Rattle.sides.specs.Lists.{with_key}
use Rattle.sides.specs.Links.{link_among}
use Rattle.sides.specs.Steps.Linked.{Linked}
use Rattle.side_chains.specs.Steps.Chains.{low_of, high_of, high_in, Chain, Chained, Fit, Walkable, Linkable}
use Rattle.sides.proofs.EveryOf.{every_map, every_both, every_of, every_among, every_passes}
use Rattle.sides.proofs.SiftLaws.{occurs_with}
use Rattle.sides.proofs.RisingLaws.{rising_sift}

pub record Linking (key : ℕ → ℕ) (ss : List ℕ) (a : ℕ) (before links : List ℕ) : Type 0 where
  pub linked : Every (λ s. low_of key s < a → get_or links s 0 ≡ link_among s (with_key key (key s) ss)) ss
  pub others : (s : ℕ) → occurrences s ss ≡ 0 → get_or links s 0 ≡ get_or before s 0

pub start : (key : ℕ → ℕ) (ss before : List ℕ) → Linking key ss 0 before before
start key ss before =
    record {
      linked = every_of (λ s. low_of key s < 0 → get_or before s 0 ≡ link_among s (with_key key (key s) ss)) ss (λ s h k. absurd (omega (arith, k)));
      others = λ s o. refl;
    }

-- those with one lower corner, and of them those with one higher
pub two_tests : (key high : ℕ → ℕ) (s : ℕ) (ss : List ℕ) → high s ≡ high_of key s → Every (λ t. high t ≡ high_of key t) ss
    → with_key high (high s) (with_key (low_of key) (low_of key s) ss) ≡ with_key key (key s) ss
two_tests key high s [] e w = refl
two_tests key high s (t ∷ ts) e w =
    go (eqb (low_of key t) (low_of key s)) (eqb (high t) (high s)) (eqb (key t) (key s)) refl refl refl (two_tests key high s ts e w.1)
  where
    low : List ℕ
    low = with_key (low_of key) (low_of key s) ts

    go : (a b c : Bool) → eqb (low_of key t) (low_of key s) ≡ a → eqb (high t) (high s) ≡ b → eqb (key t) (key s) ≡ c
        → with_key high (high s) (with_key (low_of key) (low_of key s) ts) ≡ with_key key (key s) ts
        → with_key high (high s) (cond a (t ∷ with_key (low_of key) (low_of key s) ts) (with_key (low_of key) (low_of key s) ts))
        ≡ cond c (t ∷ with_key key (key s) ts) (with_key key (key s) ts)
    go true true true p q r h = rw q (ap (λ (l : List ℕ). t ∷ l) h)
    go true true false p q r h = absurd (eqb-false (key t) (key s) r
        (omega (arith, eqb-true (low_of key t) (low_of key s) p, eqb-true (high t) (high s) q, e, w.0)))
    go true false true p q r h = absurd (eqb-false (high t) (high s) q (omega (arith, eqb-true (key t) (key s) r, e, w.0)))
    go true false false p q r h = rw q h
    go false b true p q r h = absurd (eqb-false (low_of key t) (low_of key s) p (omega (arith, eqb-true (key t) (key s) r)))
    go false b false p q r h = h

module _ (heads nexts : List ℕ) (a : ℕ) (h : a < length heads) where
  pub walkable : (firsts₀ before firsts links : List ℕ) → Linkable heads nexts firsts₀ before → length firsts ≡ length firsts₀ → length links ≡ length before
      → ((b : ℕ) → b < length firsts → get_or firsts b 0 ≤ a * 131072) → Walkable nexts (get_or heads a 0) (a * 131072) firsts links
  walkable firsts₀ before firsts links w f l old =
      record {
        sides = with_key (low_of w.key) a w.sides;
        chain = w.chained.chains a h;
        rising = rising_sift (λ s. s) (λ s. eqb (low_of w.key s) a) w.sides w.rising;
        fit = every_sift (Fit nexts firsts links) (λ s. eqb (low_of w.key s) a) w.sides
            (every_map (Fit nexts firsts₀ before) (Fit nexts firsts links)
            (λ s t. record {
              number = t.number;
              for_next = t.for_next;
              for_link = omega (arith, t.for_link, l);
              for_first = omega (arith, t.for_first, f);
            }) w.sides w.fit);
        room = omega (arith, w.few, h);
        old = old;
      }

  module _ (key : ℕ → ℕ) (ss : List ℕ) (c : Chained key ss heads nexts) (before links links' : List ℕ) (g : Linking key ss a before links)
      (k : (ts : List ℕ) → Chain nexts (get_or heads a 0) ts → Linked (high_in nexts) ts links links') where
    abbrev here : List ℕ
    here = with_key (low_of key) a ss

    w : Linked (high_in nexts) here links links'
    w = k here (c.chains a h)

    not_here : (s : ℕ) → ((Among s here) → ⊥) → occurrences s here ≡ 0
    not_here s f = go (occurrences s here) refl
      where
        go : (n : ℕ) → occurrences s here ≡ n → n ≡ 0
        go zero q = refl
        go (suc n) q = absurd (f (omega (arith, q)))

    one : (s : ℕ) → Among s ss → low_of key s < a + 1 → get_or links' s 0 ≡ link_among s (with_key key (key s) ss)
    one s m l = go (eqb (low_of key s) a) refl
      where
        go : (b : Bool) → eqb (low_of key s) a ≡ b → get_or links' s 0 ≡ link_among s (with_key key (key s) ss)
        go true e =
            let q : low_of key s ≡ a = eqb-true (low_of key s) a e in
            let in-it : Among s here = subst (λ (n : ℕ). Among s (with_key (low_of key) n ss)) q (omega (arith, occurs_with (low_of key) s ss)) in
            let high : high_in nexts s ≡ high_of key s = every_among (λ t. high_in nexts t ≡ high_of key t) s ss c.highs m in
            every_among (λ t. get_or links' t 0 ≡ link_among t (with_key (high_in nexts) (high_in nexts t) here)) s here w.linked in-it
            ∙ ap (λ (n : ℕ). link_among s (with_key (high_in nexts) (high_in nexts s) (with_key (low_of key) n ss))) (sym q)
            ∙ ap (link_among s) (two_tests key (high_in nexts) s ss high c.highs)
        go false e =
            let ne : low_of key s ≡ a → ⊥ = eqb-false (low_of key s) a e in
            let out : occurrences s here ≡ 0 = not_here s (λ i. true≢false
            (sym (every_among (λ t. eqb (low_of key t) a ≡ true) s here (every_passes (λ t. eqb (low_of key t) a) ss) i) ∙ e)) in
            w.others s out ∙ every_among (λ t. low_of key t < a → get_or links t 0 ≡ link_among t (with_key key (key t) ss)) s ss g.linked m (omega arith)

    pub one_chain : Linking key ss (a + 1) before links'
    one_chain =
        record {
          linked = every_of (λ s. low_of key s < a + 1 → get_or links' s 0 ≡ link_among s (with_key key (key s) ss)) ss one;
          others = λ s o. w.others s (not_here s (λ i. omega (
            arith,
            o,
            every_among (λ t. Among t ss) s here
                (every_sift (λ t. Among t ss) (λ t. eqb (low_of key t) a) ss (every_of (λ t. Among t ss) ss (λ t m. m))) i,
          ))) ∙ g.others s o;
        }

pub ended : (key : ℕ → ℕ) (ss : List ℕ) (a m : ℕ) (before links : List ℕ) → Linking key ss a before links → m ≤ a → Every (λ s. low_of key s < m) ss
    → Linked key ss before links
ended key ss a m before links g h w =
    record {
      linked = every_map (λ s. (low_of key s < m) × (low_of key s < a → get_or links s 0 ≡ link_among s (with_key key (key s) ss)))
          (λ s. get_or links s 0 ≡ link_among s (with_key key (key s) ss)) (λ s t. t.1 (omega (arith, t.0))) ss
          (every_both (λ s. low_of key s < m) (λ s. low_of key s < a → get_or links s 0 ≡ link_among s (with_key key (key s) ss)) ss w g.linked);
      others = g.others;
    }
