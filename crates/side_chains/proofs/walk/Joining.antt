-- One more side of a chain is linked: those that are done are linked among each other, and `firsts` leads to the first of each key.
use Prim.Native.Nat.{ℕ, ◌+◌, ◌-◌, ◌/◌, ◌≤◌, ◌<◌}
use native.Mathlib.Omega.{arith}
use mathlib.Core.Path.{◌≡◌, refl, sym, ap, subst, ◌∙◌}
use mathlib.Core.Bool.{Bool, true, false, cond}
use mathlib.Core.List.{List, [], ◌∷◌, ◌++◌, append-nil}
use lib.Dec.{eqb}
use lib.ListN.{length, get_or, set, drop, length-set}
use lib.Seq.{get_or-set_same, get_or-set_other}
use borrow.Author.Tests.{eqb-true, eqb-false, eq-eqb, ne_eqb}
use Rattle.base.specs.Every.{Every}
use Rattle.base.specs.Lists.{occurrences, Among}
use Rattle.base.proofs.EveryLaws.{every_append, every_sift}
use Rattle.base.proofs.ListLaws.{occurs_append, among_head}
use Rattle.corners.specs.Corners.{none}
use Rattle.sides.specs.Lists.{with_key}
use Rattle.sides.specs.Links.{link_among}
use Rattle.side_chains.specs.Steps.Chains.{later_linked}
use Rattle.sides.proofs.EveryOf.{every_of, every_among, every_passes}
use Rattle.sides.proofs.SiftLaws.{sift_append, sift_front, sift_past, occurs_with}
use Rattle.sides.proofs.LinkLaws.{link_behind}

-- ---- a later side's store

module _ (links : List ℕ) (f s : ℕ) where
  abbrev one : List ℕ
  one = set links s (f / 3)

  pub as_second : (p q : ℕ) → p ≡ f / 3 → q ≡ s / 3 → get_or (set links s p) f 0 ≡ none → set (set links s p) f q ≡ later_linked links f s
  unfolding later_linked
  as_second p q e g n = rw (e, g, eq-eqb (get_or (set links s (f / 3)) f 0) none (subst (λ (m : ℕ). get_or (set links s m) f 0 ≡ none) e n))

  pub as_third : (p : ℕ) → p ≡ f / 3 → (get_or (set links s p) f 0 ≡ none → ⊥) → set links s p ≡ later_linked links f s
  unfolding later_linked
  as_third p e n = rw (e, ne_eqb (get_or (set links s (f / 3)) f 0) none (subst (λ (m : ℕ). get_or (set links s m) f 0 ≡ none → ⊥) e n))

  pub later_length : length (later_linked links f s) ≡ length links
  unfolding later_linked
  later_length = go (eqb (get_or one f 0) none)
    where
      go : (q : Bool) → length (cond q (set one f (s / 3)) one) ≡ length links
      go true = length-set one f (s / 3) ∙ length-set links s (f / 3)
      go false = length-set links s (f / 3)

  later_else : (t : ℕ) → (t ≡ s → ⊥) → (t ≡ f → ⊥) → get_or (later_linked links f s) t 0 ≡ get_or links t 0
  unfolding later_linked
  later_else t a b = go (eqb (get_or one f 0) none)
    where
      go : (q : Bool) → get_or (cond q (set one f (s / 3)) one) t 0 ≡ get_or links t 0
      go true = get_or-set_other one f t (s / 3) 0 b ∙ get_or-set_other links s t (f / 3) 0 a
      go false = get_or-set_other links s t (f / 3) 0 a

  module _ (ne : f ≡ s → ⊥) (hf : f < length links) (hs : s < length links) where
    later_own : get_or (later_linked links f s) s 0 ≡ f / 3
    unfolding later_linked
    later_own = go (eqb (get_or one f 0) none)
      where
        go : (q : Bool) → get_or (cond q (set one f (s / 3)) one) s 0 ≡ f / 3
        go true = get_or-set_other one f s (s / 3) 0 (λ q. ne (sym q)) ∙ get_or-set_same links s (f / 3) 0 hs
        go false = get_or-set_same links s (f / 3) 0 hs

    kept_first : get_or one f 0 ≡ get_or links f 0
    kept_first = get_or-set_other links s f (f / 3) 0 ne

    later_second : get_or links f 0 ≡ none → get_or (later_linked links f s) f 0 ≡ s / 3
    unfolding later_linked
    later_second e = rw (eq-eqb (get_or one f 0) none (kept_first ∙ e)) (get_or-set_same one f (s / 3) 0 (omega (arith, length-set links s (f / 3))))

    later_third : (get_or links f 0 ≡ none → ⊥) → get_or (later_linked links f s) f 0 ≡ get_or links f 0
    unfolding later_linked
    later_third e = rw (ne_eqb (get_or one f 0) none (λ q. e (sym kept_first ∙ q))) kept_first

-- ---- the state

-- what leads to the first of the sides with one key; at most `base` where there is none
abbrev pub First : ℕ → List ℕ → ℕ → Type 0
First base [] x = x ≤ base
First base (f ∷ fs) x = x ≡ base + f + 1

none_first : (base : ℕ) (fs : List ℕ) (x : ℕ) → First base fs x → x ≤ base → fs ≡ []
none_first base [] x p h = refl
none_first base (f ∷ fs) x p h = absurd (omega (arith, p))

some_first : (base : ℕ) (fs : List ℕ) (x : ℕ) → First base fs x → base < x → fs ≡ (x - base - 1) ∷ drop 1 fs
some_first base [] x p h = absurd (omega (arith, p))
some_first base (f ∷ fs) x p h = ap (λ (n : ℕ). n ∷ fs) (omega (arith, p))

pub record Joined (key : ℕ → ℕ) (base : ℕ) (done before firsts links : List ℕ) : Type 0 where
  pub linked : Every (λ s. get_or links s 0 ≡ link_among s (with_key key (key s) done)) done
  pub others : (s : ℕ) → occurrences s done ≡ 0 → get_or links s 0 ≡ get_or before s 0
  pub first : (b : ℕ) → b < length firsts → First base (with_key key b done) (get_or firsts b 0)

module _ (key : ℕ → ℕ) (base : ℕ) (done before firsts links : List ℕ) (s : ℕ) (g : Joined key base done before firsts links)
    (new : occurrences s done ≡ 0) (hs : s < length links) (hb : key s < length firsts) (numbers : Every (λ t. t + 1 < 131072) done)
    (inside : Every (λ t. t < length links) done) where
  abbrev same : List ℕ
  same = with_key key (key s) done

  abbrev all : List ℕ
  all = done ++ (s ∷ [])

  abbrev x : ℕ
  x = get_or firsts (key s) 0

  all_of : (k : ℕ) → with_key key k all ≡ with_key key k done ++ with_key key k (s ∷ [])
  all_of k = sift_append (λ t. eqb (key t) k) done (s ∷ [])

  all_same : (k : ℕ) → key s ≡ k → with_key key k all ≡ with_key key k done ++ (s ∷ [])
  all_same k e = all_of k ∙ ap (λ (l : List ℕ). with_key key k done ++ l) (sift_front (λ t. eqb (key t) k) s [] (eq-eqb (key s) k e))

  all_else : (k : ℕ) → (key s ≡ k → ⊥) → with_key key k all ≡ with_key key k done
  all_else k e = all_of k ∙ ap (λ (l : List ℕ). with_key key k done ++ l) (sift_past (λ t. eqb (key t) k) s [] (ne_eqb (key s) k e))
      ∙ append-nil (with_key key k done)

  not_s : (t : ℕ) → Among t done → t ≡ s → ⊥
  not_s t h q = omega (arith, new, ap (λ (u : ℕ). occurrences u done) q)

  was : (t : ℕ) → Among t done → get_or links t 0 ≡ link_among t (with_key key (key t) done)
  was t h = every_among (λ u. get_or links u 0 ≡ link_among u (with_key key (key u) done)) t done g.linked h

  among_same : (t : ℕ) → Among t done → (k : ℕ) → key t ≡ k → Among t (with_key key k done)
  among_same t h k e = subst (λ (n : ℕ). Among t (with_key key n done)) e (omega (arith, occurs_with key t done))

  others_else : (t : ℕ) → occurrences t all ≡ 0 → t ≡ s → ⊥
  others_else t o q = omega (arith, o, occurs_append t done (s ∷ []), among_head t [], ap (λ (u : ℕ). occurrences t (u ∷ [])) q)

  others_done : (t : ℕ) → occurrences t all ≡ 0 → occurrences t done ≡ 0
  others_done t o = omega (arith, o, occurs_append t done (s ∷ []))

  -- what is to be shown of the links
  linked_all : (links' : List ℕ) → ((t : ℕ) → Among t done → get_or links' t 0 ≡ link_among t (with_key key (key t) all))
      → get_or links' s 0 ≡ link_among s (with_key key (key s) all) → Every (λ t. get_or links' t 0 ≡ link_among t (with_key key (key t) all)) all
  linked_all links' f e = every_append (λ t. get_or links' t 0 ≡ link_among t (with_key key (key t) all)) done (s ∷ [])
      (every_of (λ t. get_or links' t 0 ≡ link_among t (with_key key (key t) all)) done f) (e, tt)

  -- ---- it is the first of its key
  module _ (old : x ≤ base) where
    alone : same ≡ []
    alone = none_first base same x (g.first (key s) hb) old

    now_alone : (k : ℕ) → key s ≡ k → with_key key k all ≡ s ∷ []
    now_alone k e = all_same k e ∙ ap (λ (n : ℕ). with_key key n done ++ (s ∷ [])) (sym e) ∙ ap (λ (l : List ℕ). l ++ (s ∷ [])) alone

    abbrev links₁ : List ℕ
    links₁ = set links s none

    abbrev firsts₁ : List ℕ
    firsts₁ = set firsts (key s) (base + (s + 1))

    before_it : (t : ℕ) → Among t done → get_or links₁ t 0 ≡ link_among t (with_key key (key t) all)
    before_it t h =
        let ne : key s ≡ key t → ⊥ = λ q. omega (arith, among_same t h (key s) (sym q), ap (occurrences t) alone) in
        get_or-set_other links s t none 0 (not_s t h) ∙ was t h ∙ ap (link_among t) (sym (all_else (key t) ne))

    first_one : (b : ℕ) → b < length firsts₁ → First base (with_key key b all) (get_or firsts₁ b 0)
    first_one b h = go (eqb (key s) b) refl
      where
        go : (q : Bool) → eqb (key s) b ≡ q → First base (with_key key b all) (get_or firsts₁ b 0)
        go true e =
            let k : key s ≡ b = eqb-true (key s) b e in
            rw (now_alone b k) (ap (λ (n : ℕ). get_or firsts₁ n 0) (sym k) ∙ get_or-set_same firsts (key s) (base + (s + 1)) 0 hb ∙ omega arith)
        go false e =
            let ne : key s ≡ b → ⊥ = eqb-false (key s) b e in
            rw (all_else b ne, get_or-set_other firsts (key s) b (base + (s + 1)) 0 (λ q. ne (sym q)))
            (g.first b (omega (arith, length-set firsts (key s) (base + (s + 1)))))

    pub joins_first : Joined key base all before firsts₁ links₁
    joins_first =
        record {
          linked = linked_all links₁ before_it (get_or-set_same links s none 0 hs ∙ sym (ap (link_among s) (now_alone (key s) refl)));
          others = λ t o. get_or-set_other links s t none 0 (others_else t o) ∙ g.others t (others_done t o);
          first = first_one;
        }

  -- ---- it is a later one
  module _ (newer : base < x) where
    abbrev f : ℕ
    f = x - base - 1

    abbrev fs : List ℕ
    fs = drop 1 same

    led : same ≡ f ∷ fs
    led = some_first base same x (g.first (key s) hb) newer

    f_key : key f ≡ key s
    f_key = eqb-true (key f) (key s) (subst (λ (l : List ℕ). Every (λ t. eqb (key t) (key s) ≡ true) l) led (every_passes (λ t. eqb (key t) (key s)) done)).0

    f_among : Among f done
    f_among = omega (arith, occurs_with key f done, ap (λ (k : ℕ). occurrences f (with_key key k done)) f_key, ap (occurrences f) led, among_head f fs)

    f_new : f ≡ s → ⊥
    f_new = not_s f f_among

    pub f_inside : f < length links
    f_inside = every_among (λ t. t < length links) f done inside f_among

    f_link : get_or links f 0 ≡ link_among f (f ∷ fs)
    f_link = was f f_among ∙ ap (λ (k : ℕ). link_among f (with_key key k done)) f_key ∙ ap (link_among f) led

    abbrev links₂ : List ℕ
    links₂ = later_linked links f s

    now_led : with_key key (key s) all ≡ (f ∷ fs) ++ (s ∷ [])
    now_led = all_same (key s) refl ∙ ap (λ (l : List ℕ). l ++ (s ∷ [])) led

    -- of its key
    alike : (rest : List ℕ) → fs ≡ rest → (t : ℕ) → Among t done → Among t (f ∷ rest) → get_or links t 0 ≡ link_among t (f ∷ rest)
        → get_or links₂ t 0 ≡ link_among t ((f ∷ rest) ++ (s ∷ []))
    alike [] e t h a w =
        let q : f ≡ t = only t a in
        subst (λ (u : ℕ). get_or links₂ u 0 ≡ link_among u (f ∷ (s ∷ []))) q
        (later_second links f s f_new f_inside hs (f_link ∙ ap (λ (l : List ℕ). link_among f (f ∷ l)) e)
        ∙ sym (ap (λ (b : Bool). cond b (s / 3) (f / 3)) (eq-eqb f f refl)))
      where
        only : (u : ℕ) → Among u (f ∷ []) → f ≡ u
        only u b = go (eqb f u) refl b
          where
            go : (q : Bool) → eqb f u ≡ q → 0 < length (cond q (f ∷ []) []) → f ≡ u
            go true k c = eqb-true f u k
            go false k c = absurd (omega (arith, c))
    alike (r ∷ rs) e t h a w = go (eqb t f) refl
      where
        smalls : Every (λ u. u + 1 < 131072) (f ∷ (r ∷ rs))
        smalls = subst (λ (l : List ℕ). Every (λ u. u + 1 < 131072) (f ∷ l)) e
            (subst (λ (l : List ℕ). Every (λ u. u + 1 < 131072) l) led (every_sift (λ u. u + 1 < 131072) (λ u. eqb (key u) (key s)) done numbers))

        third : get_or links f 0 ≡ r / 3
        third = f_link ∙ ap (λ (l : List ℕ). link_among f (f ∷ l)) e ∙ ap (λ (b : Bool). cond b (r / 3) (f / 3)) (eq-eqb f f refl)

        go : (q : Bool) → eqb t f ≡ q → get_or links₂ t 0 ≡ link_among t ((f ∷ (r ∷ rs)) ++ (s ∷ []))
        go true k =
            let q : t ≡ f = eqb-true t f k in
            let old : get_or links₂ f 0 ≡ get_or links f 0 = later_third links f s f_new f_inside hs (λ p. omega (arith, third, p, smalls.1.0)) in
            ap (λ (u : ℕ). get_or links₂ u 0) q ∙ old ∙ ap (λ (u : ℕ). get_or links u 0) (sym q) ∙ w
        go false k = later_else links f s t (not_s t h) (eqb-false t f k) ∙ w

    before_later : (t : ℕ) → Among t done → get_or links₂ t 0 ≡ link_among t (with_key key (key t) all)
    before_later t h = go (eqb (key s) (key t)) refl
      where
        go : (q : Bool) → eqb (key s) (key t) ≡ q → get_or links₂ t 0 ≡ link_among t (with_key key (key t) all)
        go true e =
            let k : key s ≡ key t = eqb-true (key s) (key t) e in
            let a : Among t (f ∷ fs) = subst (λ (l : List ℕ). Among t l) led (among_same t h (key s) (sym k)) in
            let w : get_or links t 0 ≡ link_among t (f ∷ fs) =
            was t h ∙ ap (λ (n : ℕ). link_among t (with_key key n done)) (sym k) ∙ ap (link_among t) led in
            alike fs refl t h a w ∙ sym (ap (link_among t) (ap (λ (n : ℕ). with_key key n all) (sym k) ∙ now_led))
        go false e =
            let ne : key s ≡ key t → ⊥ = eqb-false (key s) (key t) e in
            later_else links f s t (not_s t h) (λ q. ne (sym (ap key q ∙ f_key))) ∙ was t h ∙ ap (link_among t) (sym (all_else (key t) ne))

    first_later : (b : ℕ) → b < length firsts → First base (with_key key b all) (get_or firsts b 0)
    first_later b h = go (eqb (key s) b) refl
      where
        go : (q : Bool) → eqb (key s) b ≡ q → First base (with_key key b all) (get_or firsts b 0)
        go true e =
            let k : key s ≡ b = eqb-true (key s) b e in
            subst (λ (n : ℕ). First base (with_key key n all) (get_or firsts n 0)) k (rw now_led (omega arith))
        go false e = rw (all_else b (eqb-false (key s) b e)) (g.first b h)

    pub joins_later : Joined key base all before firsts links₂
    joins_later =
        record {
          linked = linked_all links₂ before_later (later_own links f s f_new f_inside hs
              ∙ sym (ap (link_among s) now_led ∙ link_behind s f fs [] (λ q. f_new (sym q))));
          others = λ t o. later_else links f s t (others_else t o)
              (λ q. omega (arith, others_done t o, f_among, ap (λ (u : ℕ). occurrences u done) q)) ∙ g.others t (others_done t o);
          first = first_later;
        }
