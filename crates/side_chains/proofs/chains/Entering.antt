-- The highest corner so far, and the sides that are entered from the last on.
use Prim.Native.Nat.{ℕ, suc, ◌+◌, ◌-◌, ◌*◌, ◌/◌, ◌%◌, ◌≤◌, ◌<◌}
use native.Mathlib.Omega.{arith}
use mathlib.Core.Path.{◌≡◌, refl, sym, ap, subst, ◌∙◌}
use mathlib.Core.Bool.{Bool, true, false, not, cond, true≢false}
use mathlib.Core.List.{List, [], ◌∷◌}
use lib.Dec.{eqb, ltb}
use lib.ListN.{length, get_or, set}
use borrow.Author.Tests.{eqb-true, eqb-false, eq-eqb, ne_eqb, ltb-true, ltb-false}
use Rattle.base.specs.Every.{Every}
use Rattle.base.specs.Lists.{sift, up_from}
use Rattle.base.proofs.EveryLaws.{every_sift}
use Rattle.corners.specs.Corners.{none, next_of, there, Corners}
use Rattle.sides.specs.Lists.{with_key}
use Rattle.sides.specs.Sides.{pair_of, key_of}
use Rattle.side_chains.specs.Steps.Chains.{low_of, high_of, Chained, Enterable, past_of, sides_from}
use Rattle.sides.proofs.EveryOf.{every_map}
use Rattle.sides.proofs.SiftLaws.{sift_front, sift_past}
use Rattle.sides.proofs.SideLaws.{leads_within, leads_back, leads_on}
use Rattle.sides.proofs.UpFromLaws.{above, every_counting}
use Rattle.side_chains.proofs.ChainLaws.{one_entered, leads_small}

-- ---- the highest corner

pub past_small : (cs : List ℕ) → Corners cs → (past s : ℕ) → s < length cs → past ≤ 32768 → past_of past (get_or cs s 0) ≤ 32768
unfolding past_of
past_small cs c past s h p = go (eqb (get_or cs s 0) none) refl (ltb (get_or cs s 0) past)
  where
    go : (b : Bool) → eqb (get_or cs s 0) none ≡ b → (d : Bool) → cond b past (cond d past (get_or cs s 0 + 1)) ≤ 32768
    go true e d = p
    go false e true = p
    go false e false = omega (arith, (c.small s h (ap not e)).0)

past_least : (past c : ℕ) → past ≤ past_of past c
unfolding past_of
past_least past c = go (eqb c none) (ltb c past) refl
  where
    go : (b d : Bool) → ltb c past ≡ d → past ≤ cond b past (cond d past (c + 1))
    go true d e = omega arith
    go false true e = omega arith
    go false false e = omega (arith, ltb-false c past e)

past_above : (past c : ℕ) → not (eqb c none) ≡ true → c < past_of past c
unfolding past_of
past_above past c t = go (eqb c none) refl (ltb c past) refl
  where
    go : (b : Bool) → eqb c none ≡ b → (d : Bool) → ltb c past ≡ d → c < cond b past (cond d past (c + 1))
    go true e d k = absurd (true≢false (sym t ∙ ap not e))
    go false e true k = ltb-true c past k
    go false e false k = omega arith

pub past_more : (cs : List ℕ) (past s : ℕ) → ((t : ℕ) → t < s → there cs t ≡ true → get_or cs t 0 < past)
    → (t : ℕ) → t < s + 1 → there cs t ≡ true → get_or cs t 0 < past_of past (get_or cs s 0)
past_more cs past s f t h e = go (eqb t s) refl
  where
    go : (b : Bool) → eqb t s ≡ b → get_or cs t 0 < past_of past (get_or cs s 0)
    go true q =
        let p : t ≡ s = eqb-true t s q in
        subst (λ (u : ℕ). get_or cs u 0 < past_of past (get_or cs s 0)) (sym p)
        (past_above past (get_or cs s 0) (subst (λ (u : ℕ). there cs u ≡ true) p e))
    go false q = let ne : t ≡ s → ⊥ = eqb-false t s q in omega (arith, f t (omega arith) e, past_least past (get_or cs s 0))

-- ---- the sides from s on

module _ (cs : List ℕ) (s : ℕ) (h : s < length cs) where
  from_here : sides_from cs s ≡ sift (there cs) (s ∷ up_from (s + 1) (length cs - (s + 1)))
  from_here = let n : length cs - s ≡ suc (length cs - (s + 1)) = omega arith in ap (λ (m : ℕ). sift (there cs) (up_from s m)) n

  pub skipped : get_or cs s 0 ≡ none → sides_from cs s ≡ sides_from cs (s + 1)
  skipped a = from_here ∙ sift_past (there cs) s (up_from (s + 1) (length cs - (s + 1))) (ap not (eq-eqb (get_or cs s 0) none a))

  taken : there cs s ≡ true → sides_from cs s ≡ s ∷ sides_from cs (s + 1)
  taken t = from_here ∙ sift_front (there cs) s (up_from (s + 1) (length cs - (s + 1))) t

  behind : Every (λ t. s < t) (sides_from cs (s + 1))
  behind = every_sift (λ t. s < t) (there cs) (up_from (s + 1) (length cs - (s + 1))) (above s (s + 1) (length cs - (s + 1)) (omega arith))

  numbers : length cs ≤ 98301 → Every (λ t. t + 1 < 131072) (sides_from cs (s + 1))
  numbers k = every_sift (λ t. t + 1 < 131072) (there cs) (up_from (s + 1) (length cs - (s + 1)))
      (every_map (λ t. t < s + 1 + (length cs - (s + 1))) (λ t. t + 1 < 131072) (λ t w. omega arith) (up_from (s + 1) (length cs - (s + 1)))
      (every_counting (s + 1) (length cs - (s + 1))))

  module _ (heads nexts : List ℕ) (w : Enterable cs heads nexts) (a : get_or cs s 0 ≡ none → ⊥) where
    present : there cs s ≡ true
    present = ap not (ne_eqb (get_or cs s 0) none a)

    pub corners_small : (get_or cs s 0 < 32768) × (get_or cs (next_of s) 0 < 32768)
    corners_small = w.corners.small s h present

    pub next_in : next_of s < length cs
    next_in = leads_within s (length cs) h w.corners.threes

    both_below : (get_or cs s 0 < length heads) × (get_or cs (next_of s) 0 < length heads)
    both_below = (
      w.below s h present,
      w.below (next_of s) next_in (ap not (ne_eqb (get_or cs (next_of s) 0) none (λ q. omega (arith, q, corners_small.1)))),
    )

    pub low_in : low_of (key_of cs) s < length heads
    unfolding key_of pair_of
    low_in = go (ltb (get_or cs s 0) (get_or cs (next_of s) 0))
      where
        go : (b : Bool) → cond b (get_or cs s 0 * 32768 + get_or cs (next_of s) 0) (get_or cs (next_of s) 0 * 32768 + get_or cs s 0) / 32768 < length heads
        go true = omega (arith, both_below.0, corners_small.1)
        go false = omega (arith, both_below.1, corners_small.0)

    module _ (g : Chained (key_of cs) (sides_from cs (s + 1)) heads nexts) where
      pub head_small : get_or heads (low_of (key_of cs) s) 0 < 131072
      head_small = leads_small nexts (get_or heads (low_of (key_of cs) s) 0) (with_key (low_of (key_of cs)) (low_of (key_of cs) s) (sides_from cs (s + 1)))
          (every_sift (λ t. t + 1 < 131072) (λ t. eqb (low_of (key_of cs) t) (low_of (key_of cs) s)) (sides_from cs (s + 1)) (numbers w.corners.few))
          (g.chains (low_of (key_of cs) s) low_in)

      pub entered : Chained (key_of cs) (sides_from cs s) (set heads (low_of (key_of cs) s) (s + 1))
          (set nexts s (high_of (key_of cs) s * 131072 + get_or heads (low_of (key_of cs) s) 0))
      entered = rw (taken present) (one_entered (key_of cs) s (sides_from cs (s + 1)) heads nexts g behind (numbers w.corners.few) low_in
          (omega (arith, h, w.for_nexts)))

-- ---- as the code has it: `to` is the corner that side s leads to, `low` and `high` its corners

module _ (cs : List ℕ) (s : ℕ) (heads nexts : List ℕ) (to : ℕ) (w : Enterable cs heads nexts) (h : s < length cs) (e : to ≡ next_of s)
    (a : get_or cs s 0 ≡ none → ⊥) where
  pub to_in : to < length cs
  to_in = rw e (next_in cs s h heads nexts w a)

  pub both_small : (get_or cs s 0 < 32768) × (get_or cs to 0 < 32768)
  both_small = rw e (corners_small cs s h heads nexts w a)

  pair_is : pair_of (get_or cs s 0) (get_or cs to 0) ≡ key_of cs s
  unfolding key_of
  pair_is = ap (λ (n : ℕ). pair_of (get_or cs s 0) (get_or cs n 0)) e

  module _ (g : Chained (key_of cs) (sides_from cs (s + 1)) heads nexts) (low : ℕ) (l : low ≡ pair_of (get_or cs s 0) (get_or cs to 0) / 32768) where
    low_is : low ≡ low_of (key_of cs) s
    low_is = l ∙ ap (λ (n : ℕ). n / 32768) pair_is

    pub low_as : low < length heads
    low_as = rw low_is (low_in cs s h heads nexts w a)

    module _ (high : ℕ) (k : high ≡ pair_of (get_or cs s 0) (get_or cs to 0) % 32768) where
      high_is : high ≡ high_of (key_of cs) s
      high_is = k ∙ ap (λ (n : ℕ). n % 32768) pair_is

      pub packed_fits : high * 131072 + get_or heads low 0 < 4294967296
      packed_fits = omega (arith, high_is, head_small cs s h heads nexts w a g, ap (λ (n : ℕ). get_or heads n 0) low_is)

      pub entered_as : Chained (key_of cs) (sides_from cs s) (set heads low (s + 1)) (set nexts s (high * 131072 + get_or heads low 0))
      entered_as = rw (low_is, high_is) (entered cs s h heads nexts w a g)

-- none is entered yet
pub none_entered : (cs heads nexts : List ℕ) → ((b : ℕ) → b < length heads → get_or heads b 0 ≡ 0) → Chained (key_of cs) (sides_from cs (length cs)) heads nexts
none_entered cs heads nexts f =
    let n : length cs - length cs ≡ 0 = omega arith in
    let e : sides_from cs (length cs) ≡ [] = ap (λ (m : ℕ). sift (there cs) (up_from (length cs) m)) n in
    rw e (record { chains = f; highs = tt })

-- ---- polygon by polygon

pub still_enterable : (cs heads₀ nexts₀ heads nexts : List ℕ) → Enterable cs heads₀ nexts₀ → length heads ≡ length heads₀ → length nexts ≡ length nexts₀
    → Enterable cs heads nexts
still_enterable cs heads₀ nexts₀ heads nexts w h n =
    record {
      corners = w.corners;
      below = λ s k t. omega (arith, w.below s k t, h);
      for_nexts = omega (arith, w.for_nexts, n);
    }

pub third_leads : (p : ℕ) → p % 3 ≡ 0 → p ≡ next_of (p + 2)
third_leads p e = (let q : p ≡ p + 2 - 2 = omega arith in q) ∙ leads_back (p + 2) (omega arith)

pub second_leads : (p : ℕ) → p % 3 ≡ 0 → p + 2 ≡ next_of (p + 1)
second_leads p e = (let q : p + 2 ≡ p + 1 + 1 = omega arith in q) ∙ leads_on (p + 1) (λ q. omega (arith, q))

pub first_leads : (p : ℕ) → p % 3 ≡ 0 → p + 1 ≡ next_of p
first_leads p e = leads_on p (λ q. omega (arith, q))

pub from_as : (cs heads nexts : List ℕ) (s t : ℕ) → s ≡ t → Chained (key_of cs) (sides_from cs s) heads nexts → Chained (key_of cs) (sides_from cs t) heads nexts
from_as cs heads nexts s t e g = subst (λ (n : ℕ). Chained (key_of cs) (sides_from cs n) heads nexts) e g
