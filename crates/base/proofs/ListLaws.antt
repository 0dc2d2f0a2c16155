-- What a test leaves of a list: how many, how often a number stands there, and that with the rest none is lost. By induction on the list.
use Prim.Native.Nat.{ℕ, ◌+◌, ◌≤◌}
use native.Mathlib.Omega.{arith}
use mathlib.Core.Path.{◌≡◌, refl, sym, ap, ◌∙◌, subst}
use mathlib.Core.Logic.{◌⊎◌, inl, inr}
use mathlib.Core.Bool.{Bool, true, false, not, cond}
use mathlib.Core.List.{List, [], ◌∷◌, ◌++◌}
use lib.Dec.{T, eqb, eqb→eq}
use lib.Ieee.Fits.{eq→eqb}
use lib.ListN.{length}
use Rattle.base.specs.Lists.{one_if, sift, occurrences, Among, Permutes}

pub one_or_none : (b : Bool) → one_if b ≤ 1
one_or_none true = omega arith
one_or_none false = omega arith

one_if_lem : (b : Bool) → T b → one_if b ≡ 1
one_if_lem true h = refl
one_if_lem false h = absurd h

-- ---- how many

pub length_kept : (b : Bool) (x : ℕ) (xs : List ℕ) → length (cond b (x ∷ xs) xs) ≡ one_if b + length xs
length_kept true x xs = omega arith
length_kept false x xs = omega arith

either : (b : Bool) → one_if b + one_if (not b) ≡ 1
either true = refl
either false = refl

module _ (test : ℕ → Bool) where
  pub length_both : (ps : List ℕ) → length (sift test ps) + length (sift (λ p. not (test p)) ps) ≡ length ps
  length_both [] = refl
  length_both (p ∷ ps) =
      omega (
        arith,
        length_kept (test p) p (sift test ps),
        length_kept (not (test p)) p (sift (λ q. not (test q)) ps),
        either (test p),
        length_both ps,
      )

  pub length_sift : (ps : List ℕ) → length (sift test ps) ≤ length ps
  length_sift ps = omega (arith, length_both ps)

-- ---- how often a number occurs

pub occurs_more : (q p : ℕ) (ps : List ℕ) → occurrences q (p ∷ ps) ≡ one_if (eqb p q) + occurrences q ps
occurs_more q p ps = length_kept (eqb p q) p (sift (λ r. eqb r q) ps)

pub occurs_append : (q : ℕ) (ps rs : List ℕ) → occurrences q (ps ++ rs) ≡ occurrences q ps + occurrences q rs
occurs_append q [] rs = omega arith
occurs_append q (p ∷ ps) rs = omega (arith, occurs_more q p (ps ++ rs), occurs_more q p ps, occurs_append q ps rs)

pub among_head : (p : ℕ) (ps : List ℕ) → Among p (p ∷ ps)
among_head p ps = omega (arith, occurs_more p p ps, one_if_lem (eqb p p) (eq→eqb {a = p} refl))

pub among_tail : (p q : ℕ) (ps : List ℕ) → Among p ps → Among p (q ∷ ps)
among_tail p q ps h = omega (arith, occurs_more p q ps)

pub among_cases : (p q : ℕ) (ps : List ℕ) → Among p (q ∷ ps) → (q ≡ p) ⊎ Among p ps
among_cases p q ps h = go (eqb q p) refl
  where
    go : (b : Bool) → eqb q p ≡ b → (q ≡ p) ⊎ Among p ps
    go true e = inl (eqb→eq q p (subst T (sym e) tt))
    go false e = inr (let i = occurs_more p q ps ∙ ap (λ (b : Bool). one_if b + occurrences p ps) e in omega arith)

-- ---- the same numbers in another order

pub permutes_swap : (ps rs : List ℕ) → Permutes (rs ++ ps) (ps ++ rs)
permutes_swap ps rs q = omega (arith, occurs_append q ps rs, occurs_append q rs ps)

more_on_either_side : (q p : ℕ) (b : Bool) (u v ps : List ℕ) → occurrences q (u ++ v) ≡ occurrences q ps
    → occurrences q (cond b (p ∷ u) u ++ cond (not b) (p ∷ v) v) ≡ occurrences q (p ∷ ps)
more_on_either_side q p true u v ps h = omega (arith, occurs_more q p (u ++ v), occurs_more q p ps)
more_on_either_side q p false u v ps h =
    omega (arith, occurs_append q u (p ∷ v), occurs_append q u v, occurs_more q p v, occurs_more q p ps)

-- what passes, followed by the rest, is the list in another order
pub parted_permutes : (test : ℕ → Bool) (ps : List ℕ) → Permutes (sift test ps ++ sift (λ p. not (test p)) ps) ps
parted_permutes test [] q = refl
parted_permutes test (p ∷ ps) q =
    more_on_either_side q p (test p) (sift test ps) (sift (λ r. not (test r)) ps) ps (parted_permutes test ps q)
