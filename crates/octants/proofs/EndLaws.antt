-- What casts and what can be shadowed, from how many of the three axes fail.
use mathlib.Core.Path.{◌≡◌, refl, sym, ap, ap₂, ◌∙◌}
use mathlib.Core.Bool.{Bool, true, false, cond, ◌&&◌}
use Prim.Native.Nat.{ℕ, ◌+◌, ◌≤◌}
use native.Mathlib.Omega.{arith}
use Rattle.math.specs.declared.words3.Words3.{Words3}
use Rattle.shadows.specs.Nearness.{inside_of, furthest, nearest}
use Rattle.shadows.specs.Ranks.{beyond, cast_of, hide_of}

-- how many of three tests fail
abbrev failures : Bool → Bool → Bool → ℕ
failures x y z = cond x 0 1 + cond y 0 1 + cond z 0 1

none_fails : (x y z : Bool) → failures x y z ≡ 0 → (x && (y && z)) ≡ true
none_fails true true true e = refl
none_fails true true false e = absurd (omega arith)
none_fails true false z e = absurd (omega arith)
none_fails false y z e = absurd (omega arith)

one_fails : (x y z : Bool) → (failures x y z ≡ 0 → ⊥) → (x && (y && z)) ≡ false
one_fails true true true e = absurd (e refl)
one_fails true true false e = refl
one_fails true false z e = refl
one_fails false y z e = refl

-- the sum of what the three axes give
sums : (p q r : ℕ) (x y z : Bool) → p ≡ cond x 0 1 → q ≡ cond y 0 1 → r ≡ cond z 0 1 → p + q + r ≡ failures x y z
sums p q r x y z e f g = ap₂ ◌+◌ (ap₂ ◌+◌ e f) g

pub at_most_one : (b : Bool) → cond b 0 1 ≤ 1
at_most_one true = omega arith
at_most_one false = omega arith

module _ (a : Words3) (p q r : ℕ) where
  pub casts_whole : p ≡ cond (inside_of a.x nearest) 0 1 → q ≡ cond (inside_of a.y nearest) 0 1 → r ≡ cond (inside_of a.z nearest) 0 1
      → p + q + r ≡ 0 → a.z ≡ cast_of a
  unfolding cast_of
  casts_whole e f g h =
      ap (λ (b : Bool). cond b a.z beyond)
      (sym (none_fails (inside_of a.x nearest) (inside_of a.y nearest) (inside_of a.z nearest)
      (sym (sums p q r (inside_of a.x nearest) (inside_of a.y nearest) (inside_of a.z nearest) e f g) ∙ h)))

  pub casts_none : p ≡ cond (inside_of a.x nearest) 0 1 → q ≡ cond (inside_of a.y nearest) 0 1 → r ≡ cond (inside_of a.z nearest) 0 1
      → (p + q + r ≡ 0 → ⊥) → beyond ≡ cast_of a
  unfolding cast_of
  casts_none e f g h =
      ap (λ (b : Bool). cond b a.z beyond)
      (sym (one_fails (inside_of a.x nearest) (inside_of a.y nearest) (inside_of a.z nearest)
      (λ k. h (sums p q r (inside_of a.x nearest) (inside_of a.y nearest) (inside_of a.z nearest) e f g ∙ k))))

  pub hides_whole : p ≡ cond (inside_of a.x furthest) 0 1 → q ≡ cond (inside_of a.y furthest) 0 1 → r ≡ cond (inside_of a.z furthest) 0 1
      → p + q + r ≡ 0 → a.z ≡ hide_of a
  unfolding hide_of
  hides_whole e f g h =
      ap (λ (b : Bool). cond b a.z 0)
      (sym (none_fails (inside_of a.x furthest) (inside_of a.y furthest) (inside_of a.z furthest)
      (sym (sums p q r (inside_of a.x furthest) (inside_of a.y furthest) (inside_of a.z furthest) e f g) ∙ h)))

  pub hides_none : p ≡ cond (inside_of a.x furthest) 0 1 → q ≡ cond (inside_of a.y furthest) 0 1 → r ≡ cond (inside_of a.z furthest) 0 1
      → (p + q + r ≡ 0 → ⊥) → 0 ≡ hide_of a
  unfolding hide_of
  hides_none e f g h =
      ap (λ (b : Bool). cond b a.z 0)
      (sym (one_fails (inside_of a.x furthest) (inside_of a.y furthest) (inside_of a.z furthest)
      (λ k. h (sums p q r (inside_of a.x furthest) (inside_of a.y furthest) (inside_of a.z furthest) e f g ∙ k))))
