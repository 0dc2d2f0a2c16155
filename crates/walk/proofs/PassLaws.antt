-- Trees that are passed over, and the walk behind them: it is the walk, and what is left falls by one for each.
use Rattle.std.specs.Prelude.{◌≡◌, ℕ, zero, suc, ◌+◌, ◌-◌, ◌*◌, ◌<◌, ◌≤◌, Bool, true, false, not, ◌||◌, T, ltb, List, is_ok, Result, Ok, Err}
use mathlib.Core.Path.{refl, sym, ap, subst, ◌∙◌}
use mathlib.Core.Bool.{and-eq-true_iff}
use native.Mathlib.Omega.{arith}
use borrow.Author.Tests.{lt-ltb, ltb-true, ltb-false}
use Rattle.base.proofs.Truth.{and_yes, or_yes, both_yes}
use Rattle.records.specs.Records.{tree_at}
use Rattle.records.specs.declared.BvhTree.{BvhTree}
use Rattle.walk_steps.specs.Boxes.{meets}
use Rattle.walk_steps.specs.Refusals.{bad_range}
use Rattle.walk_steps.specs.Step.{Lent, Turn, quiet, passing, more, step_of}
use Rattle.walk.specs.Walks.{joined, left, walk_from}
use Rattle.walk.specs.Steps.Passing.{passes_over, PassedUpTo}
use Rattle.walk_steps.specs.Steps.Contracts.{ahead_at, inside_range}
use Rattle.walk_steps.specs.declared.boxes.Query.{Query}
use Rattle.walk_steps.specs.declared.refusals.WalkRefusal.{WalkRefusal}
use Rattle.walk_steps.specs.declared.state.WalkState.{WalkState}
use Rattle.walk_steps.proofs.StepLaws.{tree_passed, step_tree}
use Rattle.walk.proofs.WalkLaws.{walk_more, step_falls}

apart : true ≡ false → ⊥
apart e = subst T e tt

-- ---- one tree
module _ (q : Query) (nodes : ℕ) (t : BvhTree) where
  pub over_met : meets q t.min t.max ≡ true → passes_over q nodes t ≡ false
  unfolding passes_over
  over_met m = rw m

  pub over_missed : meets q t.min t.max ≡ false → passes_over q nodes t ≡ not (bad_range nodes t)
  unfolding passes_over
  over_missed m = rw m

  over_refused : meets q t.min t.max ≡ false → bad_range nodes t ≡ true → passes_over q nodes t ≡ false
  unfolding passes_over
  over_refused m b = rw (m, b)

  misses : passes_over q nodes t ≡ true → meets q t.min t.max ≡ false
  misses p = go (meets q t.min t.max) refl
    where
      go : (b : Bool) → meets q t.min t.max ≡ b → b ≡ false
      go true e = absurd (apart (sym p ∙ over_met e))
      go false e = refl

  sound : passes_over q nodes t ≡ true → bad_range nodes t ≡ false
  sound p = go (bad_range nodes t) refl
    where
      go : (b : Bool) → bad_range nodes t ≡ b → b ≡ false
      go true e = absurd (apart (sym p ∙ over_refused (misses p) e))
      go false e = refl

-- ---- states
pub is_going : (r : Result (Unit {0}) WalkRefusal) → is_ok r ≡ true → r ≡ Ok tt
is_going (Ok u) e = refl
is_going (Err why) e = absurd (apart (sym e))

pub inside_more : (trees : ℕ) (s : WalkState) → inside_range s ≡ true → more trees s ≡ true
inside_more trees s e =
    let both = (and-eq-true_iff (is_ok s.status) (ltb s.at s.last)).0 e in
    both_yes both.0 (or_yes (ltb s.tree trees) both.1)

pub inside_at : (s : WalkState) → inside_range s ≡ true → s.at < s.last
inside_at s e = ltb-true s.at s.last ((and-eq-true_iff (is_ok s.status) (ltb s.at s.last)).0 e).1

pub outside_at : (s : WalkState) → is_ok s.status ≡ true → inside_range s ≡ false → s.last ≤ s.at
outside_at s g e = ltb-false s.at s.last (sym (and_yes (ltb s.at s.last) g) ∙ e)

pub tree_more : (trees : ℕ) (s : WalkState) → s.status ≡ Ok tt → s.tree < trees → more trees s ≡ true
tree_more trees s g h = both_yes (ap is_ok g) (go (ltb s.at s.last))
  where
    go : (b : Bool) → b || ltb s.tree trees ≡ true
    go true = refl
    go false = lt-ltb s.tree trees h

-- ---- trees passed over, one after another
abbrev past : ℕ → WalkState → WalkState
past n s =
    record { tree = s.tree + n; at = s.at; last = s.last; reads = s.reads + n; handed = s.handed; status = s.status }

pub record Behind (l : Lent) (s r : WalkState) (n : ℕ) : Type 0 where
  pub walk_is : walk_from l s ≡ walk_from l r
  pub left_falls : left l r + n ≤ left l s

behind_as : (l : Lent) (s r u : WalkState) (n : ℕ) → r ≡ u → Behind l s r n → Behind l s u n
behind_as l s r u n e b = subst (λ (x : WalkState). Behind l s x n) e b

past_none : (s : WalkState) → s ≡ past 0 s
past_none s =
    let t : s.tree ≡ s.tree + 0 = omega arith in
    let r : s.reads ≡ s.reads + 0 = omega arith in
    λ i. record { tree = t i; at = s.at; last = s.last; reads = r i; handed = s.handed; status = s.status }

past_more : (n : ℕ) (s : WalkState) → s.status ≡ Ok tt → past n (passing s) ≡ past (suc n) s
past_more n s g =
    let t : s.tree + 1 + n ≡ s.tree + suc n = omega arith in
    let r : s.reads + 1 + n ≡ s.reads + suc n = omega arith in
    λ i. record { tree = t i; at = s.at; last = s.last; reads = r i; handed = s.handed; status = sym g i }

past_ahead : (k : ℕ) (s : WalkState) → s.status ≡ Ok tt → s.tree ≤ k → past (k - s.tree) s ≡ ahead_at k s
past_ahead k s g h =
    let t : s.tree + (k - s.tree) ≡ k = omega arith in
    λ i. record { tree = t i; at = s.at; last = s.last; reads = s.reads + (k - s.tree); handed = s.handed; status = g i }

module _ (l : Lent) where
  abbrev over : ℕ → Bool
  over k = passes_over l.query l.sizes.nodes (tree_at l.trees (16 * k))

  step_passes : (s : WalkState) → s.last ≤ s.at → over s.tree ≡ true → step_of l s ≡ quiet (passing s)
  step_passes s h p =
      let t = tree_at l.trees (16 * s.tree) in
      let q = l.query in
      let nodes = l.sizes.nodes in
      step_tree l s h ∙ ap quiet (tree_passed q nodes t s (sound q nodes t p) (misses q nodes t p))

  one : (s : WalkState) → s.status ≡ Ok tt → s.last ≤ s.at → s.tree < l.sizes.trees → over s.tree ≡ true → Behind l s (passing s) 1
  one s g h k p =
      let m = tree_more l.sizes.trees s g k in
      let e = step_passes s h p in
      let f : left l (passing s) < left l s = subst (λ (u : Turn). left l u.state < left l s) e (step_falls l s m) in
      record {
        walk_is = walk_more l s m ∙ ap (λ (u : Turn). joined u (walk_from l u.state)) e;
        left_falls = omega arith;
      }

  more_behind : (s r u : WalkState) (n : ℕ) → Behind l s r 1 → Behind l r u n → Behind l s u (suc n)
  more_behind s r u n a b = record { walk_is = a.walk_is ∙ b.walk_is; left_falls = omega (arith, a.left_falls, b.left_falls) }

  many : (n : ℕ) (s : WalkState) → s.status ≡ Ok tt → s.last ≤ s.at → s.tree + n ≤ l.sizes.trees
      → ((k : ℕ) → s.tree ≤ k → k < s.tree + n → over k ≡ true) → Behind l s (past n s) n
  many zero s g h k p = behind_as l s s (past 0 s) 0 (past_none s) (record { walk_is = refl; left_falls = omega arith })
  many (suc n) s g h k p =
      behind_as l s (past n (passing s)) (past (suc n) s) (suc n) (past_more n s g)
      (more_behind s (passing s) (past n (passing s)) n
      (one s g h (omega arith) (p s.tree (omega arith) (omega arith)))
      (many n (passing s) refl h (omega arith) (λ j a b. p j (omega arith) (omega arith))))

  -- The walk goes on behind the trees passed over, which cost one reading each.
  pub walk_passes : (s : WalkState) (upto r : ℕ) → s.status ≡ Ok tt → s.last ≤ s.at → upto ≤ l.sizes.trees
      → PassedUpTo l.query l.sizes.nodes l.trees s.tree upto r → Behind l s (ahead_at r s) (r - s.tree)
  walk_passes s upto r g h u p =
      let a = p.onward in
      let b = p.in_bounds in
      behind_as l s (past (r - s.tree) s) (ahead_at r s) (r - s.tree) (past_ahead r s g a)
      (many (r - s.tree) s g h (omega arith) (λ k x y. p.passed k x (omega arith)))

-- ---- the loop over them: all trees before the present one are passed over
module _ (q : Query) (nodes : ℕ) (trees : List ℕ) (from upto : ℕ) where
  pub none_passed : from ≤ upto → PassedUpTo q nodes trees from upto from
  none_passed h = record { onward = omega arith; in_bounds = h; passed = λ k a b. absurd (let o : ⊥ = omega arith in o) }

  pub next_passed : (t : ℕ) → PassedUpTo q nodes trees from upto t → t < upto → passes_over q nodes (tree_at trees (16 * t)) ≡ true
      → PassedUpTo q nodes trees from upto (t + 1)
  next_passed t o h p = record { onward = omega (arith, o.onward); in_bounds = omega arith; passed = all }
    where
      all : (k : ℕ) → from ≤ k → k < t + 1 → passes_over q nodes (tree_at trees (16 * k)) ≡ true
      all k a b = go (ltb k t) refl
        where
          go : (c : Bool) → ltb k t ≡ c → passes_over q nodes (tree_at trees (16 * k)) ≡ true
          go true e = o.passed k a (ltb-true k t e)
          go false e =
              let f = ltb-false k t e in
              let s : t ≡ k = omega arith in
              subst (λ (j : ℕ). passes_over q nodes (tree_at trees (16 * j)) ≡ true) s p
