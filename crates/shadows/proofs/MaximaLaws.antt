-- What the loop keeps is what nothing displaces (rule O2), for every transitive relation. By the invariant `Covering`: each vertex seen is kept, or
-- shadowed by a kept one.
use mathlib.Core.Path.{◌≡◌, refl, sym, ap, ◌∙◌}
use mathlib.Core.Logic.{◌⊎◌, inl, inr}
use mathlib.Core.Bool.{Bool, true, false, not, cond, ◌&&◌, ◌||◌}
use mathlib.Core.List.{List, [], ◌∷◌, ◌++◌}
use Prim.Native.Nat.{ℕ, zero, suc, ◌≤◌, ◌<◌}
use native.Mathlib.Omega.{arith}
use borrow.Author.Tests.{le-ltb, lt-ltb, ltb-true, ltb-false}
use lib.Dec.{ltb}
use Rattle.base.specs.Lists.{sift, Below}
use Rattle.base.proofs.EveryLaws.{every_append, every_sift}
use Rattle.base.proofs.NumberLaws.{below_wider}
use Rattle.shadows.specs.Kept.{some, admit, kept_of}
use Rattle.shadows.specs.Maxima.{Transitive, numbers, none_below, displaced, listed, maxima_of}
use Rattle.shadows.proofs.Truth.{decide, never, first_true, second_true, both_true}
use Rattle.shadows.proofs.Below.{none_alike, Last, sooner, last, last_or, none_at, none_if, one_if_lem, sift_append, sift_sift, sift_alike, some_sifted}

module _ (shadowed : ℕ → ℕ → Bool) where
  -- ---- what displaces what

  displaced_by : (i j : ℕ) → shadowed i j ≡ true → (ltb j i || not (shadowed j i)) ≡ true → displaced shadowed i j ≡ true
  unfolding displaced
  displaced_by i j h k = both_true (shadowed i j) (ltb j i || not (shadowed j i)) h k

  -- an earlier one does where it shadows
  pub earlier_displaces : (i j : ℕ) → j < i → shadowed i j ≡ true → displaced shadowed i j ≡ true
  earlier_displaces i j l h = displaced_by i j h (rw (lt-ltb j i l))

  -- one that shadows and does not displace comes no earlier, and is shadowed in turn
  pub shadows_only : (i j : ℕ) → displaced shadowed i j ≡ false → shadowed i j ≡ true → (i ≤ j) × (shadowed j i ≡ true)
  unfolding displaced
  shadows_only i j d h = go (ltb j i) (shadowed j i) refl refl (rw h at d)
    where
      go : (a b : Bool) → ltb j i ≡ a → shadowed j i ≡ b → (a || not b) ≡ false → (i ≤ j) × (shadowed j i ≡ true)
      go true b e f g = never refl g
      go false true e f g = (omega (arith, ltb-false j i e), f)
      go false false e f g = never refl g

  -- a later one does where it shadows and is not shadowed
  later_displaces : (i j : ℕ) → i ≤ j → shadowed j i ≡ false → displaced shadowed i j ≡ shadowed i j
  unfolding displaced
  later_displaces i j l e = rw (le-ltb j i l, e) (go (shadowed i j))
    where
      go : (b : Bool) → (b && true) ≡ b
      go true = refl
      go false = refl

  never_itself : (i : ℕ) → displaced shadowed i i ≡ false
  unfolding displaced
  never_itself i = rw (le-ltb i i (omega arith)) (go (shadowed i i))
    where
      go : (b : Bool) → (b && not b) ≡ false
      go true = refl
      go false = refl

  not_shadowed : (i j : ℕ) → shadowed i j ≡ false → displaced shadowed i j ≡ false
  unfolding displaced
  not_shadowed i j e = rw e

  -- ---- the loop's two ways

  pub admit_passes : (kept : List ℕ) (i : ℕ) → some (shadowed i) kept ≡ true → admit shadowed kept i ≡ kept
  unfolding admit
  admit_passes kept i e = rw e

  pub admit_joins : (kept : List ℕ) (i : ℕ) → some (shadowed i) kept ≡ false → admit shadowed kept i ≡ sift (λ k. not (shadowed k i)) kept ++ (i ∷ [])
  unfolding admit
  admit_joins kept i e = rw e

  -- ---- the invariant

  -- a listed one that is j, or shadows it
  pub record Cover (n j : ℕ) : Type 0 where
    pub by : ℕ
    pub in_range : by < n
    pub on_list : listed shadowed n by ≡ true
    pub covers : (j ≡ by) ⊎ (shadowed j by ≡ true)

  abbrev Covering : ℕ → Type 0
  Covering n = (j : ℕ) → j < n → Cover n j

  record Invariant (n : ℕ) : Type 0 where
    list : kept_of shadowed n ≡ maxima_of shadowed n
    covering : Covering n

  -- what the loop asks of vertex n: whether a listed one shadows it
  asked : (n : ℕ) → kept_of shadowed n ≡ maxima_of shadowed n
      → some (shadowed n) (kept_of shadowed n) ≡ not (none_below n (λ k. listed shadowed n k && shadowed n k))
  asked n e = ap (some (shadowed n)) e ∙ some_sifted (shadowed n) (listed shadowed n) n

  maxima_more : (n : ℕ) (b : Bool) → listed shadowed (suc n) n ≡ b
      → maxima_of shadowed (suc n) ≡ sift (listed shadowed (suc n)) (numbers n) ++ cond b (n ∷ []) []
  maxima_more n b e = sift_append (listed shadowed (suc n)) (numbers n) (n ∷ []) ∙ rw e

  shadowed_in_turn : (i j : ℕ) → i ≤ j → shadowed j i ≡ true → displaced shadowed i j ≡ false
  unfolding displaced
  shadowed_in_turn i j l e = rw (le-ltb j i l, e) (go (shadowed i j))
    where
      go : (b : Bool) → (b && false) ≡ false
      go true = refl
      go false = refl

  module _ (trans : Transitive shadowed) (n : ℕ) (inv : Invariant n) where
    -- ---- a listed vertex w shadows n: the list stays

    module _ (w : ℕ) (l : w < n) (on : listed shadowed n w ≡ true) (over : shadowed n w ≡ true) where
      still : (k : ℕ) → k < n → listed shadowed (suc n) k ≡ listed shadowed n k
      still k m = go (listed shadowed n k) refl
        where
          displaced_not : listed shadowed n k ≡ true → (displaced shadowed k n ≡ true) ⊎ (displaced shadowed k n ≡ false) → displaced shadowed k n ≡ false
          displaced_not e (inr d) = d
          displaced_not e (inl d) =
              let k-n : shadowed k n ≡ true = first_true (shadowed k n) (ltb n k || not (shadowed n k)) (unfold displaced in d) in
              let w-k = (shadows_only k w (none_at n (displaced shadowed k) e w l) (trans k n w k-n over)).1 in
              shadowed_in_turn k n (omega arith) (trans n w k over w-k)

          go : (b : Bool) → listed shadowed n k ≡ b → (b && not (displaced shadowed k n)) ≡ b
          go true e = ap not (displaced_not e (decide (displaced shadowed k n)))
          go false e = refl

      passed : listed shadowed (suc n) n ≡ false
      passed = go (listed shadowed n n) refl
        where
          go : (b : Bool) → listed shadowed n n ≡ b → (b && not (displaced shadowed n n)) ≡ false
          go true e = never (earlier_displaces n w l over) (none_at n (displaced shadowed n) e w l)
          go false e = refl

      stays : some (shadowed n) (kept_of shadowed n) ≡ true → Invariant (suc n)
      stays s =
          record {
            list =
                admit_passes (kept_of shadowed n) n s ∙ inv.list
                ∙ sym (maxima_more n false passed ∙ rw (sift_alike (listed shadowed (suc n)) (listed shadowed n) n still) (append_nil (maxima_of shadowed n)));
            covering = λ j m. go j (last_or n j m);
          }
        where
          append_nil : (xs : List ℕ) → xs ++ [] ≡ xs
          append_nil [] = refl
          append_nil (x ∷ xs) = ap (λ (l : List ℕ). x ∷ l) (append_nil xs)

          go : (j : ℕ) → Last n j → Cover (suc n) j
          go j (sooner m) =
              let c = inv.covering j m in
              record { by = c.by; in_range = omega (arith, c.in_range); on_list = still c.by c.in_range ∙ c.on_list; covers = c.covers }
          go j (last e) = record { by = w; in_range = omega arith; on_list = still w l ∙ on; covers = inr (ap (λ (i : ℕ). shadowed i w) e ∙ over) }

    -- ---- no listed vertex shadows n: it comes onto the list, and those that it shadows go

    module _ (free : (k : ℕ) → k < n → listed shadowed n k ≡ true → shadowed n k ≡ false) where
      thinned : (k : ℕ) → k < n → listed shadowed (suc n) k ≡ (listed shadowed n k && not (shadowed k n))
      thinned k m = go (listed shadowed n k) refl
        where
          go : (b : Bool) → listed shadowed n k ≡ b → (b && not (displaced shadowed k n)) ≡ (b && not (shadowed k n))
          go true e = ap not (later_displaces k n (omega arith) (free k m e))
          go false e = refl

      -- a vertex that shadows n would be covered, and its cover would shadow n too
      unshadowed : (j : ℕ) → j < n → (shadowed n j ≡ true) ⊎ (shadowed n j ≡ false) → shadowed n j ≡ false
      unshadowed j m (inr e) = e
      unshadowed j m (inl e) = go (inv.covering j m)
        where
          go : Cover n j → shadowed n j ≡ false
          go c = by_cases c.covers
            where
              by_cases : (j ≡ c.by) ⊎ (shadowed j c.by ≡ true) → shadowed n j ≡ false
              by_cases (inl f) = ap (shadowed n) f ∙ free c.by c.in_range c.on_list
              by_cases (inr f) = never (trans n j c.by e f) (free c.by c.in_range c.on_list)

      admitted : listed shadowed (suc n) n ≡ true
      admitted = none_if (suc n) (displaced shadowed n) (λ k m. go k (last_or n k m))
        where
          go : (k : ℕ) → Last n k → displaced shadowed n k ≡ false
          go k (sooner m) = not_shadowed n k (unshadowed k m (decide (shadowed n k)))
          go k (last e) = ap (displaced shadowed n) e ∙ never_itself n

      joins : some (shadowed n) (kept_of shadowed n) ≡ false → Invariant (suc n)
      joins s =
          record {
            list =
                admit_joins (kept_of shadowed n) n s
                ∙ ap (λ (l : List ℕ). l ++ (n ∷ [])) (ap (sift (λ k. not (shadowed k n))) inv.list
                ∙ sift_sift (λ k. not (shadowed k n)) (listed shadowed n) (numbers n)
                ∙ sym (sift_alike (listed shadowed (suc n)) (λ k. listed shadowed n k && not (shadowed k n)) n thinned))
                ∙ sym (maxima_more n true admitted);
            covering = λ j m. go j (last_or n j m);
          }
        where
          itself : (j : ℕ) → (j ≡ n) ⊎ (shadowed j n ≡ true) → Cover (suc n) j
          itself j c = record { by = n; in_range = omega arith; on_list = admitted; covers = c }

          past : (j : ℕ) (c : Cover n j) → (shadowed c.by n ≡ true) ⊎ (shadowed c.by n ≡ false) → Cover (suc n) j
          past j c (inl e) = itself j (inr (by_cases c.covers))
            where
              by_cases : (j ≡ c.by) ⊎ (shadowed j c.by ≡ true) → shadowed j n ≡ true
              by_cases (inl f) = ap (λ (i : ℕ). shadowed i n) f ∙ e
              by_cases (inr f) = trans j c.by n f e
          past j c (inr e) =
              record {
                by = c.by;
                in_range = omega (arith, c.in_range);
                on_list = thinned c.by c.in_range ∙ both_true (listed shadowed n c.by) (not (shadowed c.by n)) c.on_list (ap not e);
                covers = c.covers;
              }

          go : (j : ℕ) → Last n j → Cover (suc n) j
          go j (sooner m) = let c = inv.covering j m in past j c (decide (shadowed c.by n))
          go j (last e) = itself j (inl e)

    step : Invariant (suc n)
    step = go (decide (none_below n (λ k. listed shadowed n k && shadowed n k)))
      where
        go : (none_below n (λ k. listed shadowed n k && shadowed n k) ≡ true) ⊎ (none_below n (λ k. listed shadowed n k && shadowed n k) ≡ false)
            → Invariant (suc n)
        go (inl e) = joins (λ k m on. second_false (listed shadowed n k) (shadowed n k) on
            (none_at n (λ k. listed shadowed n k && shadowed n k) e k m)) (asked n inv.list ∙ ap not e)
          where
            second_false : (a b : Bool) → a ≡ true → (a && b) ≡ false → b ≡ false
            second_false true b h k = k
            second_false false b h k = never h refl
        go (inr e) =
            let w = one_if_lem n (λ k. listed shadowed n k && shadowed n k) e in
            stays w.number w.in_range (first_true (listed shadowed n w.number) (shadowed n w.number) w.passes)
            (second_true (listed shadowed n w.number) (shadowed n w.number) w.passes)
            (asked n inv.list ∙ ap not e)

  invariant : Transitive shadowed → (n : ℕ) → Invariant n
  invariant trans zero = record { list = refl; covering = λ j m. absurd (omega arith) }
  invariant trans (suc n) = step trans n (invariant trans n)

  -- Rule O2: the loop's list is the vertices that nothing displaces, rising.
  pub kept_is_maxima : Transitive shadowed → (n : ℕ) → kept_of shadowed n ≡ maxima_of shadowed n
  kept_is_maxima trans n = (invariant trans n).list

  -- and each vertex is listed, or shadowed by a listed one
  pub covered : Transitive shadowed → (n j : ℕ) → j < n → Cover n j
  covered trans n = (invariant trans n).covering

-- two relations that agree on the n vertices have the same maxima
pub maxima_alike : (shadowed shadowed' : ℕ → ℕ → Bool) (n : ℕ) → ((i j : ℕ) → i < n → j < n → shadowed i j ≡ shadowed' i j)
    → maxima_of shadowed n ≡ maxima_of shadowed' n
maxima_alike shadowed shadowed' n h =
    sift_alike (listed shadowed n) (listed shadowed' n) n
    (λ i l. none_alike n (displaced shadowed i) (displaced shadowed' i) (λ j m. unfold displaced in rw (h i j l m, h j i m l)))

-- ---- two relations that agree on the n vertices keep the same

admit_below : (shadowed : ℕ → ℕ → Bool) (n : ℕ) (kept : List ℕ) → Below (suc n) kept → Below (suc n) (admit shadowed kept n)
unfolding admit
admit_below shadowed n kept w = go (some (shadowed n) kept)
  where
    spared : List ℕ
    spared = sift (λ k. not (shadowed k n)) kept

    go : (b : Bool) → Below (suc n) (cond b kept (spared ++ (n ∷ [])))
    go true = w
    go false =
        every_append (λ x. x < suc n) spared (n ∷ []) (every_sift (λ x. x < suc n) (λ k. not (shadowed k n)) kept w) (omega arith, tt)

pub kept_below : (shadowed : ℕ → ℕ → Bool) (n : ℕ) → Below n (kept_of shadowed n)
kept_below shadowed zero = tt
kept_below shadowed (suc n) =
    admit_below shadowed n (kept_of shadowed n) (below_wider n (suc n) (kept_of shadowed n) (omega arith) (kept_below shadowed n))

module _ (s t : ℕ → ℕ → Bool) (n i : ℕ) (l : i < n) (same : (i j : ℕ) → i < n → j < n → s i j ≡ t i j) where
  some_same : (ks : List ℕ) → Below n ks → some (s i) ks ≡ some (t i) ks
  some_same [] w = refl
  some_same (k ∷ ks) w = rw (same i k l w.0, some_same ks w.1)

  spared_same : (ks : List ℕ) → Below n ks → sift (λ k. not (s k i)) ks ≡ sift (λ k. not (t k i)) ks
  spared_same [] w = refl
  spared_same (k ∷ ks) w = rw (same k i w.0 l, spared_same ks w.1)

  admit_same : (ks : List ℕ) → Below n ks → admit s ks i ≡ admit t ks i
  unfolding admit
  admit_same ks w = rw (some_same ks w, spared_same ks w)

pub kept_alike : (s t : ℕ → ℕ → Bool) (n : ℕ) → ((i j : ℕ) → i < n → j < n → s i j ≡ t i j) → kept_of s n ≡ kept_of t n
kept_alike s t zero h = refl
kept_alike s t (suc n) h =
    admit_same s t (suc n) n (omega arith) h (kept_of s n) (below_wider n (suc n) (kept_of s n) (omega arith) (kept_below s n))
    ∙ ap (λ (ks : List ℕ). admit t ks n) (kept_alike s t n (λ i j k l. h i j (omega arith) (omega arith)))

-- ---- a relation that is transitive among the n vertices

abbrev pub TransitiveBelow : (ℕ → ℕ → Bool) → ℕ → Type 0
TransitiveBelow shadowed n =
    (i j k : ℕ) → i < n → j < n → k < n → shadowed i j ≡ true → shadowed j k ≡ true → shadowed i k ≡ true

module _ (shadowed : ℕ → ℕ → Bool) (n : ℕ) where
  -- it, of the n vertices alone
  abbrev guarded : ℕ → ℕ → Bool
  guarded i j = ltb i n && (ltb j n && shadowed i j)

  guarded_is : (i j : ℕ) → i < n → j < n → guarded i j ≡ shadowed i j
  guarded_is i j k l = rw (lt-ltb i n k, lt-ltb j n l)

  pub kept_are_maxima : TransitiveBelow shadowed n → kept_of shadowed n ≡ maxima_of shadowed n
  kept_are_maxima trans =
      kept_alike shadowed guarded n (λ i j k l. sym (guarded_is i j k l)) ∙ kept_is_maxima guarded all n ∙ maxima_alike guarded shadowed n guarded_is
    where
      all : Transitive guarded
      all i j k h h' =
          let a = first_true (ltb i n) (ltb j n && shadowed i j) h in
          let b = second_true (ltb i n) (ltb j n && shadowed i j) h in
          let c = second_true (ltb j n) (ltb k n && shadowed j k) h' in
          let d = first_true (ltb k n) (shadowed j k) c in
          rw (a, d)
          (trans i j k (ltb-true i n a) (ltb-true j n (first_true (ltb j n) (shadowed i j) b)) (ltb-true k n d) (second_true (ltb j n) (shadowed i j) b)
          (second_true (ltb k n) (shadowed j k) c))
