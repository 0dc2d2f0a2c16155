-- Every vertex has its turn, whichever is tried first: so trying one of them first changes nothing.
use Prim.Native.Nat.{ℕ, ◌+◌, ◌-◌, ◌≤◌, ◌<◌}
use native.Mathlib.Omega.{arith}
use mathlib.Core.Path.{◌≡◌, refl, sym, ap, ◌∙◌}
use mathlib.Core.Bool.{Bool, true, false, cond}
use lib.Dec.{eqb, leb}
use borrow.Author.Tests.{eqb-true, eqb-false, leb-true, leb-false, eq-eqb, ne_eqb, le-leb, lt-leb}
use Rattle.rays.specs.Steps.Counting.{none_to}
use Rattle.rays.specs.Steps.Checking.{turn_of}
use Rattle.rays.proofs.CountLaws.{none_at, all_none}

module _ (hint v : ℕ) where
  -- by the three tests
  by : (k : ℕ) (a b c : Bool) → leb v hint ≡ a → eqb k 0 ≡ b → leb k hint ≡ c → turn_of hint v k ≡ cond a k (cond b hint (cond c (k - 1) k))
  by k a b c e f g i = cond (e i) k (cond (f i) hint (cond (g i) (k - 1) k))

  pub no_hint : (k : ℕ) → v ≤ hint → k ≡ turn_of hint v k
  no_hint k h = sym (by k true (eqb k 0) (leb k hint) (le-leb v hint h) refl refl)

  pub hint_first : (k : ℕ) → hint < v → k ≡ 0 → hint ≡ turn_of hint v k
  hint_first k h z = sym (by k false true (leb k hint) (lt-leb v hint h) (eq-eqb k 0 z) refl)

  pub others_before : (k : ℕ) → hint < v → (k ≡ 0 → ⊥) → k ≤ hint → k - 1 ≡ turn_of hint v k
  others_before k h z l = sym (by k false false true (lt-leb v hint h) (ne_eqb k 0 z) (le-leb k hint l))

  pub others_behind : (k : ℕ) → hint < v → (k ≡ 0 → ⊥) → hint < k → k ≡ turn_of hint v k
  others_behind k h z l = sym (by k false false false (lt-leb v hint h) (ne_eqb k 0 z) (lt-leb k hint l))

  module _ (p : ℕ → Bool) where
    -- if no turn's vertex passes the test, no vertex does
    each : none_to v (λ k. p (turn_of hint v k)) ≡ true → (i : ℕ) → i < v → p i ≡ false
    each none i h = go (leb v hint) refl
      where
        at : (k : ℕ) → k < v → i ≡ turn_of hint v k → p i ≡ false
        at k l e = ap p e ∙ none_at v (λ k. p (turn_of hint v k)) none k l

        among : hint < v → (b : Bool) → eqb i hint ≡ b → (c : Bool) → leb i hint ≡ c → p i ≡ false
        among l true e c f = at 0 (omega arith) (eqb-true i hint e ∙ hint_first 0 l refl)
        among l false e true f =
            let less : i < hint = omega (arith, eqb-false i hint e, leb-true i hint f) in
            let same : i ≡ i + 1 - 1 = omega arith in
            at (i + 1) (omega arith) (same ∙ others_before (i + 1) l (λ z. omega arith) (omega arith))
        among l false e false f =
            let more : hint < i = leb-false i hint f in
            at i h (others_behind i l (λ z. omega arith) more)

        go : (b : Bool) → leb v hint ≡ b → p i ≡ false
        go true e = at i h (no_hint i (leb-true v hint e))
        go false e = among (leb-false v hint e) (eqb i hint) refl (leb i hint) refl

    pub all_turns : none_to v (λ k. p (turn_of hint v k)) ≡ true → none_to v p ≡ true
    all_turns none = all_none v p (each none)
