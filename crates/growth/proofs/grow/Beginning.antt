-- What is kept of what the segment at the top of the stack begins with: nothing at first and behind a leaf, and behind an inner node
-- what its first group begins with.
use Prim.Native.Nat.{ℕ, ◌+◌, ◌-◌, ◌≤◌, ◌<◌}
use native.Mathlib.Omega.{arith}
use mathlib.Core.List.{List, ◌++◌}
use mathlib.Core.Path.{◌≡◌, ap, subst, ◌∙◌}
use lib.ListN.{length, get_or, set, take, drop, length-set}
use lib.Seq.{get_or-set_same, length-take-le, drop_at, take-append-le}
use borrow.Rule.Slice.PartMut.{put_mid}
use Rattle.entries.specs.declared.boxes.BoxWords.{BoxWords}
use Rattle.entries.specs.declared.totals.Begun.{Begun}
use Rattle.entries.specs.Steps.Begun.{Begins}

-- the segment at the top of the stack
abbrev pub first_segment : List ℕ → ℕ → List ℕ → ℕ → List ℕ
first_segment stack sp places lo = take (get_or stack sp 0) (drop lo places)

module _ (at : ℕ → BoxWords) (b : Begun) where
  pub none_begun : (ps : List ℕ) → b.count ≡ 0 → Begins at b ps
  none_begun ps e = record { within = omega arith; kept = λ h. absurd (omega arith) }

  pub turn_begun : (stack : List ℕ) (sp : ℕ) (places : List ℕ) (lo : ℕ) → Begins at b (first_segment stack sp places lo)
      → Begins at b (take (lo + get_or stack sp 0 - lo) (drop lo places))
  turn_begun stack sp places lo w =
      let k : ℕ = get_or stack sp 0 in
      let e : k ≡ lo + k - lo = omega arith in
      subst (λ (j : ℕ). Begins at b (take j (drop lo places))) e w

  -- the first a of w, which are pushed
  pub inner_begun : (places w stack stack' : List ℕ) (lo j sp a v : ℕ) → lo ≤ length places → a ≤ length w → 0 < sp → sp < length stack
      → stack' ≡ set (set stack sp v) (sp - 1) a → Begins at b (take a w) → Begins at b (first_segment stack' (sp - 1) (put_mid lo j places w) lo)
  inner_begun places w stack stack' lo j sp a v h ha h₀ hs e q =
      let behind : List ℕ = drop j (drop lo places) in
      let s₁ : List ℕ = set stack sp v in
      let long : length s₁ ≡ length stack = length-set stack sp v in
      let top : get_or stack' (sp - 1) 0 ≡ a = ap (λ (s : List ℕ). get_or s (sp - 1) 0) e ∙ get_or-set_same s₁ (sp - 1) a 0 (omega arith) in
      let rest : drop lo (put_mid lo j places w) ≡ w ++ behind = drop_at (take lo places) (w ++ behind) lo (length-take-le lo places h) in
      rw (top, rest, take-append-le a w behind ha) q
