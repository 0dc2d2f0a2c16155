-- What a test leaves of two lists together, of a list of which none passes, and of what another test left; and how often a side stands in a list.
use Prim.Native.Nat.{ℕ, suc, ◌≤◌, ◌<◌}
use native.Mathlib.Omega.{arith}
use mathlib.Core.Path.{◌≡◌, refl, sym, ap, ◌∙◌}
use mathlib.Core.Bool.{Bool, true, false, true≢false, cond}
use mathlib.Core.List.{List, [], ◌∷◌, ◌++◌}
use lib.Dec.{eqb}
use lib.ListN.{length, get_or, take, drop, length-append, take-append-drop}
use lib.Seq.{take-suc, split_at}
use borrow.Author.Tests.{eqb-true, eq-eqb, ne_eqb}
use Rattle.base.specs.Lists.{sift, occurrences}
use Rattle.sides.specs.Lists.{with_key}
use Rattle.base.specs.Every.{Every}

module _ (test : ℕ → Bool) where
  pub sift_append : (ss ts : List ℕ) → sift test (ss ++ ts) ≡ sift test ss ++ sift test ts
  sift_append [] ts = refl
  sift_append (s ∷ ss) ts = go (test s) (sift_append ss ts)
    where
      go : (b : Bool) → sift test (ss ++ ts) ≡ sift test ss ++ sift test ts
          → cond b (s ∷ sift test (ss ++ ts)) (sift test (ss ++ ts)) ≡ cond b (s ∷ sift test ss) (sift test ss) ++ sift test ts
      go true h = ap (λ (l : List ℕ). s ∷ l) h
      go false h = h

  pub sift_none : (ss : List ℕ) → Every (λ s. test s ≡ false) ss → sift test ss ≡ []
  sift_none [] w = refl
  sift_none (s ∷ ss) w = rw w.0 (sift_none ss w.1)

  -- a side that passes stands first
  pub sift_front : (s : ℕ) (ss : List ℕ) → test s ≡ true → sift test (s ∷ ss) ≡ s ∷ sift test ss
  sift_front s ss e = rw e

  pub sift_past : (s : ℕ) (ss : List ℕ) → test s ≡ false → sift test (s ∷ ss) ≡ sift test ss
  sift_past s ss e = rw e

  -- what passes this test passes the wider one
  pub sift_wider : (wider : ℕ → Bool) → ((s : ℕ) → test s ≡ true → wider s ≡ true) → (ss : List ℕ) → sift test (sift wider ss) ≡ sift test ss
  sift_wider wider f [] = refl
  sift_wider wider f (s ∷ ss) = go (wider s) (test s) refl refl (sift_wider wider f ss)
    where
      go : (a b : Bool) → wider s ≡ a → test s ≡ b → sift test (sift wider ss) ≡ sift test ss
          → sift test (cond a (s ∷ sift wider ss) (sift wider ss)) ≡ cond b (s ∷ sift test ss) (sift test ss)
      go true true e g h = rw g (ap (λ (l : List ℕ). s ∷ l) h)
      go true false e g h = rw g h
      go false true e g h = absurd (true≢false (sym (f s g) ∙ e))
      go false false e g h = h

-- ---- those of one key, in the part of a list before i

pub some_of : (key : ℕ → ℕ) (ss : List ℕ) (i k : ℕ) → length (with_key key k (take i ss)) ≤ length (with_key key k ss)
some_of key ss i k =
    let f : with_key key k ss ≡ with_key key k (take i ss) ++ with_key key k (drop i ss) = ap (with_key key k) (sym (take-append-drop i ss))
    ∙ sift_append (λ s. eqb (key s) k) (take i ss) (drop i ss) in
    omega (arith, ap length f, length-append (with_key key k (take i ss)) (with_key key k (drop i ss)))

module _ (key : ℕ → ℕ) (ss : List ℕ) (i : ℕ) (h : i < length ss) where
  one_more : (k : ℕ) → with_key key k (take (suc i) ss) ≡ with_key key k (take i ss) ++ with_key key k (get_or ss i 0 ∷ [])
  one_more k = rw (take-suc ss i 0 h) (sift_append (λ s. eqb (key s) k) (take i ss) (get_or ss i 0 ∷ []))

  pub one_with : (k : ℕ) → key (get_or ss i 0) ≡ k → with_key key k (take (suc i) ss) ≡ with_key key k (take i ss) ++ (get_or ss i 0 ∷ [])
  one_with k e = one_more k ∙ ap (λ (l : List ℕ). with_key key k (take i ss) ++ l) (sift_front (λ s. eqb (key s) k) (get_or ss i 0) [] (eq-eqb _ _ e))

  pub one_without : (k : ℕ) → (key (get_or ss i 0) ≡ k → ⊥) → with_key key k (take (suc i) ss) ≡ with_key key k (take i ss)
  one_without k e = one_more k ∙ ap (λ (l : List ℕ). with_key key k (take i ss) ++ l) (sift_past (λ s. eqb (key s) k) (get_or ss i 0) [] (ne_eqb _ _ e))
      ∙ simp mathlib.Core.List.append-nil

  -- there is one more to come
  pub one_to_come : length (with_key key (key (get_or ss i 0)) (take i ss)) < length (with_key key (key (get_or ss i 0)) ss)
  one_to_come =
      let k : ℕ = key (get_or ss i 0) in
      let e : with_key key k (take i ss ++ get_or ss i 0 ∷ drop (suc i) ss) ≡ with_key key k (take i ss) ++ with_key key k (get_or ss i 0 ∷ drop (suc i) ss) =
      sift_append (λ s. eqb (key s) k) (take i ss) (get_or ss i 0 ∷ drop (suc i) ss) in
      let f : with_key key k ss ≡ with_key key k (take i ss) ++ with_key key k (get_or ss i 0 ∷ drop (suc i) ss) = ap (with_key key k) (split_at ss i 0 h) ∙ e in
      let g : with_key key k (get_or ss i 0 ∷ drop (suc i) ss) ≡ get_or ss i 0 ∷ with_key key k (drop (suc i) ss) =
      sift_front (λ s. eqb (key s) k) (get_or ss i 0) (drop (suc i) ss) (eq-eqb k k refl) in
      omega (arith, ap length f, length-append (with_key key k (take i ss)) (with_key key k (get_or ss i 0 ∷ drop (suc i) ss)), ap length g)

-- ---- how often a side stands in a list

-- as often as among those of its key
pub occurs_with : (key : ℕ → ℕ) (s : ℕ) (ss : List ℕ) → occurrences s (with_key key (key s) ss) ≡ occurrences s ss
occurs_with key s ss = ap length (sift_wider (λ t. eqb t s) (λ t. eqb (key t) (key s)) (λ t e. eq-eqb (key t) (key s) (ap key (eqb-true t s e))) ss)

-- the same sides of each key: each side as often
pub occurs_same : (key : ℕ → ℕ) (ss ts : List ℕ) → ((s : ℕ) → with_key key (key s) ss ≡ with_key key (key s) ts)
    → (s : ℕ) → occurrences s ss ≡ occurrences s ts
occurs_same key ss ts f s = sym (occurs_with key s ss) ∙ ap (occurrences s) (f s) ∙ occurs_with key s ts
