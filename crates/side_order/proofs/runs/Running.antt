-- The loop of `link_runs`: the sides before i are linked. `run` is one more than the key of the side before i, and `first` is the first side
-- of that key; the keys before i are below `run`, and those from i on are at least `run` − 1. So a side with another key has none before it.
use Prim.Native.Nat.{ℕ, suc, ◌+◌, ◌/◌, ◌≤◌, ◌<◌}
use native.Mathlib.Omega.{arith}
use mathlib.Core.Path.{◌≡◌, refl, sym, ap, ap₂, ◌∙◌}
use mathlib.Core.Bool.{false}
use mathlib.Core.List.{List, [], ◌∷◌, ◌++◌}
use lib.Dec.{eqb}
use lib.ListN.{length, get_or, set, take, drop, length-set}
use lib.Seq.{take-suc, drop-cons, split_at, take_all, get_or-set_same, get_or-set_other}
use borrow.Author.Tests.{eq-eqb, ne_eqb}
use Rattle.base.specs.Lists.{occurrences, Among}
use Rattle.sides.specs.Lists.{with_key, RisingBy}
use Rattle.base.specs.Every.{Every}
use Rattle.sides.specs.Links.{link_among}
use Rattle.sides.specs.Steps.Linked.{link_of_first, Linked}
use Rattle.sides.specs.Steps.Grouped.{code_of}
use Rattle.base.proofs.EveryLaws.{every_append, every_drop, every_sift, every_at}
use Rattle.sides.proofs.EveryOf.{every_map, every_both, every_all, every_of}
use Rattle.sides.proofs.LinkLaws.{link_behind, link_first, keys_rise}
use Rattle.sides.proofs.SiftLaws.{sift_append, sift_none, sift_front, one_with}
use Rattle.sides.proofs.RisingLaws.{rising_right, rising_below}

pub record Running (key : ℕ → ℕ) (ss before links : List ℕ) (first run i : ℕ) : Type 0 where
  pub numbers : Every (λ s. s < 131072) ss
  pub rising : RisingBy (code_of key) ss
  pub within : Every (λ s. s < length before) ss
  pub inside : i ≤ length ss
  pub len : length links ≡ length before
  pub linked : Every (λ s. get_or links s 0 ≡ link_among s (with_key key (key s) ss)) (take i ss)
  pub others : (s : ℕ) → occurrences s ss ≡ 0 → get_or links s 0 ≡ get_or before s 0
  pub below : Every (λ s. key s < run) (take i ss)
  pub above : Every (λ s. run ≤ key s + 1) (drop i ss)
  pub leads : (k : ℕ) → k + 1 ≡ run → with_key key k (take i ss) ≡ first ∷ drop 1 (with_key key k (take i ss))

pub start : (key : ℕ → ℕ) (ss links : List ℕ) → Every (λ s. s < 131072) ss → RisingBy (code_of key) ss → Every (λ s. s < length links) ss
    → Running key ss links links 0 0 0
start key ss links n r w =
    record {
      numbers = n;
      rising = r;
      within = w;
      inside = omega arith;
      len = refl;
      linked = tt;
      others = λ s h. refl;
      below = tt;
      above = every_all (λ s. 0 ≤ key s + 1) (λ s. omega arith) ss;
      leads = λ k h. absurd (omega arith);
    }

headed : (l : List ℕ) (f : ℕ) (r : List ℕ) → l ≡ f ∷ r → l ≡ f ∷ drop 1 l
headed l f r e = e ∙ ap (λ (t : List ℕ). f ∷ t) (sym (ap (drop 1) e))

-- ---- a step

among_at : (ss : List ℕ) (i : ℕ) → i < length ss → Among (get_or ss i 0) ss
among_at ss i h = every_at (λ s. Among s ss) ss i (every_of (λ s. Among s ss) ss (λ s k. k)) h

module _ (key : ℕ → ℕ) (ss before links : List ℕ) (first run i : ℕ) (g : Running key ss before links first run i) (h : i < length ss) where
  -- the side, its key, the sides before it and those behind it
  abbrev here : ℕ
  here = get_or ss i 0

  abbrev edge : ℕ
  edge = key here

  abbrev done : List ℕ
  done = take i ss

  abbrev later : List ℕ
  later = drop (suc i) ss

  parted : done ++ here ∷ later ≡ ss
  parted = sym (split_at ss i 0 h)

  earlier : Every (λ t. code_of key t < code_of key here) done
  earlier = rising_below (code_of key) done here later (rw parted g.rising)

  from_here : RisingBy (code_of key) (here ∷ later)
  from_here = rising_right (code_of key) done (here ∷ later) (rw parted g.rising)

  above_here : Every (λ t. run ≤ key t + 1) (here ∷ later)
  above_here = rw (drop-cons ss i 0 h) at g.above

  all_with : (k : ℕ) → with_key key k ss ≡ with_key key k done ++ with_key key k (here ∷ later)
  all_with k = ap (with_key key k) (split_at ss i 0 h) ∙ sift_append (λ t. eqb (key t) k) done (here ∷ later)

  here_with : with_key key edge (here ∷ later) ≡ here ∷ with_key key edge later
  here_with = sift_front (λ t. eqb (key t) edge) here later (eq-eqb edge edge refl)

  more_with : (k : ℕ) → edge ≡ k → with_key key k (take (suc i) ss) ≡ with_key key k done ++ (here ∷ [])
  more_with k e = one_with key ss i h k e

  pub room : here < length links
  room = omega (arith, every_at (λ s. s < length before) ss i g.within h, g.len)

  -- a link is stored
  stored : (link : ℕ) → link ≡ link_among here (with_key key edge ss)
      → Every (λ s. get_or (set links here link) s 0 ≡ link_among s (with_key key (key s) ss)) (take (suc i) ss)
  stored link e =
      let old = every_map (λ t. (code_of key t < code_of key here) × (get_or links t 0 ≡ link_among t (with_key key (key t) ss)))
      (λ t. get_or (set links here link) t 0 ≡ link_among t (with_key key (key t) ss)) kept done
      (every_both (λ t. code_of key t < code_of key here) (λ t. get_or links t 0 ≡ link_among t (with_key key (key t) ss)) done earlier g.linked) in
      rw (take-suc ss i 0 h) (every_append (λ t. get_or (set links here link) t 0 ≡ link_among t (with_key key (key t) ss)) done (here ∷ []) old
      (get_or-set_same links here link 0 room ∙ e, tt))
    where
      kept : (t : ℕ) → (code_of key t < code_of key here) × (get_or links t 0 ≡ link_among t (with_key key (key t) ss))
          → get_or (set links here link) t 0 ≡ link_among t (with_key key (key t) ss)
      kept t w = get_or-set_other links here t link 0 (λ q. omega (arith, ap (code_of key) q, w.0)) ∙ w.1

  unlinked : (link s : ℕ) → occurrences s ss ≡ 0 → get_or (set links here link) s 0 ≡ get_or before s 0
  unlinked link s o = get_or-set_other links here s link 0 (λ q. omega (arith, among_at ss i h, ap (λ (t : ℕ). occurrences t ss) q, o)) ∙ g.others s o

  -- the side goes on with the run
  module _ (e : edge + 1 ≡ run) where
    led : with_key key edge done ≡ first ∷ drop 1 (with_key key edge done)
    led = g.leads edge e

    not_first : here ≡ first → ⊥
    not_first q =
        let w : Every (λ t. code_of key t < code_of key here) (first ∷ drop 1 (with_key key edge done)) =
        rw led at (every_sift (λ t. code_of key t < code_of key here) (λ t. eqb (key t) edge) done earlier) in
        omega (arith, w.0, ap (code_of key) q)

    link_is : first / 3 ≡ link_among here (with_key key edge ss)
    link_is = sym (ap (link_among here) (all_with edge ∙ ap₂ (λ (a b : List ℕ). a ++ b) led here_with)
        ∙ link_behind here first (drop 1 (with_key key edge done)) (with_key key edge later) not_first)

    pub goes_on : Running key ss before (set links here (first / 3)) first run (i + 1)
    goes_on =
        let n : i + 1 ≡ suc i = omega arith in
        rw n (record {
          numbers = g.numbers;
          rising = g.rising;
          within = g.within;
          inside = omega arith;
          len = length-set links here (first / 3) ∙ g.len;
          linked = stored (first / 3) link_is;
          others = unlinked (first / 3);
          below = rw (take-suc ss i 0 h) (every_append (λ t. key t < run) done (here ∷ []) g.below (omega arith, tt));
          above = above_here.1;
          leads = λ k q. headed (with_key key k (take (suc i) ss)) first (drop 1 (with_key key k done) ++ (here ∷ []))
              (more_with k (omega arith) ∙ ap (λ (l : List ℕ). l ++ (here ∷ [])) (g.leads k q));
        })

  -- the side begins a run
  module _ (e : edge + 1 ≡ run → ⊥) where
    none_before : with_key key edge done ≡ []
    none_before =
        let b : run ≤ edge + 1 = above_here.0 in
        sift_none (λ t. eqb (key t) edge) done
        (every_map (λ t. key t < run) (λ t. eqb (key t) edge ≡ false) (λ t k. ne_eqb (key t) edge (λ q. omega (arith, e))) done g.below)

    first_link : link_of_first key (drop i ss) ≡ link_among here (with_key key edge ss)
    first_link =
        let w : Every (λ t. t < 131072) later = every_drop (λ t. t < 131072) (suc i) ss g.numbers in
        sym (ap (link_among here) (all_with edge ∙ ap₂ (λ (a b : List ℕ). a ++ b) none_before here_with) ∙ link_first key here later w from_here
        ∙ ap (link_of_first key) (sym (drop-cons ss i 0 h)))

    pub begins : Running key ss before (set links here (link_of_first key (drop i ss))) here (edge + 1) (i + 1)
    begins =
        let n : i + 1 ≡ suc i = omega arith in
        let b : run ≤ edge + 1 = above_here.0 in
        rw n (record {
          numbers = g.numbers;
          rising = g.rising;
          within = g.within;
          inside = omega arith;
          len = length-set links here (link_of_first key (drop i ss)) ∙ g.len;
          linked = stored (link_of_first key (drop i ss)) first_link;
          others = unlinked (link_of_first key (drop i ss));
          below = rw (take-suc ss i 0 h) (every_append (λ t. key t < edge + 1) done (here ∷ [])
              (every_map (λ t. key t < run) (λ t. key t < edge + 1) (λ t k. omega arith) done g.below) (omega arith, tt));
          above = every_map (λ t. (t < 131072) × (code_of key here < code_of key t)) (λ t. edge + 1 ≤ key t + 1)
              (λ t k. omega (arith, keys_rise key here t k.0 k.1)) later
              (every_both (λ t. t < 131072) (λ t. code_of key here < code_of key t) later (every_drop (λ t. t < 131072) (suc i) ss g.numbers) from_here.0);
          leads = λ k q. headed (with_key key k (take (suc i) ss)) here []
              (more_with k (omega arith) ∙ ap (λ (l : List ℕ). l ++ (here ∷ [])) (ap (λ (m : ℕ). with_key key m done) (omega arith) ∙ none_before));
        })

pub ended : (key : ℕ → ℕ) (ss before links : List ℕ) (first run i : ℕ) → Running key ss before links first run i → length ss ≤ i → Linked key ss before links
ended key ss before links first run i g h =
    let a : take i ss ≡ ss = take_all i ss h in
    record { linked = rw a at g.linked; others = g.others }
