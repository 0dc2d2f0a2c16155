-- The loop of `link_chain`: the sides before the one that e leads to are done, and linked among each other; those from it on are the rest of the chain.
use Prim.Native.Nat.{ℕ, zero, suc, ◌+◌, ◌-◌, ◌≤◌, ◌<◌}
use native.Mathlib.Omega.{arith}
use mathlib.Core.Path.{◌≡◌, refl, sym, ap, subst, ◌∙◌}
use mathlib.Core.Bool.{Bool, cond}
use mathlib.Core.List.{List, [], ◌∷◌, ◌++◌, append_assoc, append-nil}
use lib.Dec.{eqb}
use lib.ListN.{length, get_or, set, drop, length-set}
use borrow.Author.Tests.{ne_eqb}
use Rattle.base.specs.Every.{Every}
use Rattle.base.specs.Lists.{occurrences}
use Rattle.base.proofs.EveryLaws.{every_left, every_right, every_sift}
use Rattle.corners.specs.Corners.{none}
use Rattle.sides.specs.Lists.{with_key, RisingBy}
use Rattle.side_chains.specs.Steps.Chains.{high_in, behind_in, Chain, later_linked, Fit, Walkable, Walked}
use Rattle.sides.specs.Steps.Linked.{Linked}
use Rattle.sides.proofs.EveryOf.{every_map, every_among}
use Rattle.sides.proofs.RisingLaws.{rising_below, rising_right}
use Rattle.side_chains.proofs.ChainLaws.{chain_same}
use Rattle.side_chains.proofs.walk.Joining.{First, Joined, joins_first, joins_later, f_inside, later_length}

pub record Walking (nexts : List ℕ) (head base : ℕ) (firsts₀ before firsts links : List ℕ) (e : ℕ) : Type 0 where
  pub done : List ℕ
  pub left : List ℕ
  pub whole : Chain nexts head (done ++ left)
  pub chain : Chain nexts e left
  pub rising : RisingBy (λ s. s) (done ++ left)
  pub fit : Every (Fit nexts firsts₀ before) (done ++ left)
  pub room : base + 131072 ≤ 4294967296
  pub for_firsts : length firsts ≡ length firsts₀
  pub for_links : length links ≡ length before
  pub joined : Joined (high_in nexts) base done before firsts links

pub start : (nexts : List ℕ) (head base : ℕ) (firsts links : List ℕ) → Walkable nexts head base firsts links
    → Walking nexts head base firsts links firsts links head
start nexts head base firsts links w =
    record {
      done = [];
      left = w.sides;
      whole = w.chain;
      chain = w.chain;
      rising = w.rising;
      fit = w.fit;
      room = w.room;
      for_firsts = refl;
      for_links = refl;
      joined = record { linked = tt; others = λ s o. refl; first = w.old };
    }

-- how far it is at most to the end
abbrev pub to_go : ℕ → ℕ
to_go e = cond (eqb e 0) 0 (131072 - e)

some_to_go : (e : ℕ) → 0 < e → to_go e ≡ 131072 - e
some_to_go e h = ap (λ (b : Bool). cond b 0 (131072 - e)) (ne_eqb e 0 (λ q. omega (arith, q)))

front : (nexts : List ℕ) (e : ℕ) (left : List ℕ) → Chain nexts e left → 0 < e → left ≡ (e - 1) ∷ drop 1 left
front nexts e [] c h = absurd (omega (arith, c))
front nexts e (s ∷ ss) c h = ap (λ (n : ℕ). n ∷ ss) (omega (arith, c.0))

behind : (nexts : List ℕ) (e : ℕ) (left : List ℕ) → Chain nexts e left → 0 < e → Chain nexts (behind_in nexts (e - 1)) (drop 1 left)
behind nexts e [] c h = absurd (omega (arith, c))
behind nexts e (s ∷ ss) c h = let q : s ≡ e - 1 = omega (arith, c.0) in subst (λ (n : ℕ). Chain nexts (behind_in nexts n) ss) q c.1

absent : (s : ℕ) (done : List ℕ) → Every (λ t. t < s) done → occurrences s done ≡ 0
absent s done w = go (occurrences s done) refl
  where
    go : (n : ℕ) → occurrences s done ≡ n → n ≡ 0
    go zero q = refl
    go (suc n) q = absurd (omega (arith, every_among (λ t. t < s) s done w (omega (arith, q))))

closer : (nexts : List ℕ) (s e : ℕ) (ts : List ℕ) → Chain nexts e ts → Every (λ t. s < t) ts → Every (λ t. t + 1 < 131072) ts
    → s + 1 < 131072 → to_go e < 131072 - (s + 1)
closer nexts s e [] c w v h = rw c (omega arith)
closer nexts s e (t ∷ ts) c w v h = rw (some_to_go e (omega (arith, c.0))) (omega (arith, c.0, w.0, v.0))

module _ (nexts : List ℕ) (head base : ℕ) (firsts₀ before firsts links : List ℕ) (e : ℕ)
    (w : Walking nexts head base firsts₀ before firsts links e) (h : 0 < e) where
  abbrev s : ℕ
  s = e - 1

  abbrev rest : List ℕ
  rest = drop 1 w.left

  parted : w.done ++ w.left ≡ w.done ++ (s ∷ rest)
  parted = ap (λ (l : List ℕ). w.done ++ l) (front nexts e w.left w.chain h)

  rising_here : RisingBy (λ t. t) (w.done ++ (s ∷ rest))
  rising_here = subst (λ (l : List ℕ). RisingBy (λ t. t) l) parted w.rising

  fit_here : Every (Fit nexts firsts₀ before) (w.done ++ (s ∷ rest))
  fit_here = subst (λ (l : List ℕ). Every (Fit nexts firsts₀ before) l) parted w.fit

  fit_done : Every (Fit nexts firsts₀ before) w.done
  fit_done = every_left (Fit nexts firsts₀ before) w.done (s ∷ rest) fit_here

  fit_rest : Every (Fit nexts firsts₀ before) (s ∷ rest)
  fit_rest = every_right (Fit nexts firsts₀ before) w.done (s ∷ rest) fit_here

  pub fit_side : Fit nexts firsts₀ before s
  fit_side = fit_rest.0

  new : occurrences s w.done ≡ 0
  new = absent s w.done (rising_below (λ t. t) w.done s rest rising_here)

  pub for_link : s < length links
  for_link = omega (arith, fit_side.for_link, w.for_links)

  pub for_first : high_in nexts s < length firsts
  for_first = omega (arith, fit_side.for_first, w.for_firsts)

  numbers : Every (λ t. t + 1 < 131072) w.done
  numbers = every_map (Fit nexts firsts₀ before) (λ t. t + 1 < 131072) (λ t f. f.number) w.done fit_done

  inside : Every (λ t. t < length links) w.done
  inside = every_map (Fit nexts firsts₀ before) (λ t. t < length links) (λ t f. omega (arith, f.for_link, w.for_links)) w.done fit_done

  pub less : to_go (behind_in nexts s) < to_go e
  less =
      let r : RisingBy (λ t. t) (s ∷ rest) = rising_right (λ t. t) w.done (s ∷ rest) rising_here in
      let n = every_map (Fit nexts firsts₀ before) (λ t. t + 1 < 131072) (λ t f. f.number) rest fit_rest.1 in
      let d = closer nexts s (behind_in nexts s) rest (behind nexts e w.left w.chain h) r.0 n fit_side.number in
      rw (some_to_go e h) (omega (arith, d))

  again : (firsts' links' : List ℕ) → length firsts' ≡ length firsts → length links' ≡ length links
      → Joined (high_in nexts) base (w.done ++ (s ∷ [])) before firsts' links'
      → Walking nexts head base firsts₀ before firsts' links' (behind_in nexts s)
  again firsts' links' k l j =
      let q : w.done ++ w.left ≡ (w.done ++ (s ∷ [])) ++ rest = parted ∙ sym (append_assoc w.done (s ∷ []) rest) in
      record {
        done = w.done ++ (s ∷ []);
        left = rest;
        whole = subst (λ (t : List ℕ). Chain nexts head t) q w.whole;
        chain = behind nexts e w.left w.chain h;
        rising = subst (λ (t : List ℕ). RisingBy (λ n. n) t) q w.rising;
        fit = subst (λ (t : List ℕ). Every (Fit nexts firsts₀ before) t) q w.fit;
        room = w.room;
        for_firsts = k ∙ w.for_firsts;
        for_links = l ∙ w.for_links;
        joined = j;
      }

  abbrev x : ℕ
  x = get_or firsts (high_in nexts s) 0

  pub goes_first : x ≤ base → Walking nexts head base firsts₀ before (set firsts (high_in nexts s) (base + e)) (set links s none) (behind_in nexts s)
  goes_first old =
      let q : base + (s + 1) ≡ base + e = omega arith in
      again (set firsts (high_in nexts s) (base + e)) (set links s none) (length-set firsts (high_in nexts s) (base + e)) (length-set links s none)
      (subst (λ (n : ℕ). Joined (high_in nexts) base (w.done ++ (s ∷ [])) before (set firsts (high_in nexts s) n) (set links s none)) q
      (joins_first (high_in nexts) base w.done before firsts links s w.joined new for_link for_first numbers inside old))

  pub first_inside : base < x → x - base - 1 < length links
  first_inside newer = f_inside (high_in nexts) base w.done before firsts links s w.joined new for_link for_first numbers inside newer

  pub goes_later : base < x → Walking nexts head base firsts₀ before firsts (later_linked links (x - base - 1) s) (behind_in nexts s)
  goes_later newer =
      again firsts (later_linked links (x - base - 1) s) refl (later_length links (x - base - 1) s)
      (joins_later (high_in nexts) base w.done before firsts links s w.joined new for_link for_first numbers inside newer)

-- ---- at the end

none_left : (nexts : List ℕ) (left : List ℕ) (e : ℕ) → Chain nexts e left → e ≤ 0 → left ≡ []
none_left nexts [] e c h = refl
none_left nexts (s ∷ ss) e c h = absurd (omega (arith, c.0))

first_below : (base : ℕ) (fs : List ℕ) (x : ℕ) → Every (λ t. t + 1 < 131072) fs → First base fs x → x ≤ base + 131072
first_below base [] x w p = omega (arith, p)
first_below base (f ∷ fs) x w p = omega (arith, p, w.0)

pub ended : (nexts : List ℕ) (head base : ℕ) (firsts₀ before firsts links : List ℕ) (e : ℕ)
    → Walking nexts head base firsts₀ before firsts links e → e ≤ 0 → Walked nexts head base firsts before links
ended nexts head base firsts₀ before firsts links e w h =
    let q : w.done ++ w.left ≡ w.done =
    ap (λ (l : List ℕ). w.done ++ l) (none_left nexts w.left e w.chain h) ∙ append-nil w.done in
    let all : Chain nexts head w.done = subst (λ (l : List ℕ). Chain nexts head l) q w.whole in
    let numbers = every_map (Fit nexts firsts₀ before) (λ t. t + 1 < 131072) (λ t f. f.number) w.done
    (subst (λ (l : List ℕ). Every (Fit nexts firsts₀ before) l) q w.fit) in
    record {
      linked = λ ss c. subst (λ (l : List ℕ). Linked (high_in nexts) l before links) (chain_same nexts head w.done ss all c)
          (record { linked = w.joined.linked; others = w.joined.others });
      newer = λ b k. first_below base (with_key (high_in nexts) b w.done) (get_or firsts b 0)
          (every_sift (λ t. t + 1 < 131072) (λ t. eqb (high_in nexts t) b) w.done numbers) (w.joined.first b k);
    }
