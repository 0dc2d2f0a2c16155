-- Numbers that rise by one: how many they are, what is at each place, which of them pass a test.
use Prim.Native.Nat.{ℕ, zero, suc, ◌+◌, ◌≤◌, ◌<◌}
use native.Mathlib.Omega.{arith}
use mathlib.Core.Path.{◌≡◌, refl, sym, ap, ◌∙◌}
use mathlib.Core.Bool.{Bool, true, false, true≢false, cond}
use mathlib.Core.List.{List, [], ◌∷◌, ◌++◌, map}
use lib.Dec.{eqb}
use lib.ListN.{get_or}
use borrow.Author.Tests.{eqb-true, eqb-false}
use Rattle.base.specs.Lists.{sift, Among, up_from}
use Rattle.base.specs.Every.{Every}
use Rattle.sides.specs.Lists.{RisingBy}
use Rattle.sides.proofs.EveryOf.{every_map}

pub map_counting : (f : ℕ → ℕ) (at n i : ℕ) → i < n → get_or (map f (up_from at n)) i 0 ≡ f (at + i)
map_counting f at zero i h = absurd (omega arith)
map_counting f at (suc n) zero h = ap f (omega arith)
map_counting f at (suc n) (suc i) h = map_counting f (at + 1) n i (omega arith) ∙ ap f (omega arith)

pub every_counting : (at n : ℕ) → Every (λ s. s < at + n) (up_from at n)
every_counting at zero = tt
every_counting at (suc n) = (
  omega arith,
  every_map (λ s. s < at + 1 + n) (λ s. s < at + suc n) (λ s h. omega arith) (up_from (at + 1) n)
      (every_counting (at + 1) n),
)

-- one more at the end
pub counting_more : (test : ℕ → Bool) (at n : ℕ) → sift test (up_from at (suc n)) ≡ sift test (up_from at n) ++ sift test ((at + n) ∷ [])
counting_more test at zero = ap (λ (k : ℕ). sift test (k ∷ [])) (omega arith)
counting_more test at (suc n) = go (test at) (counting_more test (at + 1) n ∙ ap (λ (k : ℕ). sift test (up_from (at + 1) n) ++ sift test (k ∷ [])) (omega arith))
  where
    go : (b : Bool) → sift test (up_from (at + 1) (suc n)) ≡ sift test (up_from (at + 1) n) ++ sift test ((at + suc n) ∷ [])
        → cond b (at ∷ sift test (up_from (at + 1) (suc n))) (sift test (up_from (at + 1) (suc n))) ≡ cond b (at ∷ sift test (up_from (at + 1) n))
        (sift test (up_from (at + 1) n)) ++ sift test ((at + suc n) ∷ [])
    go true h = ap (λ (l : List ℕ). at ∷ l) h
    go false h = h

-- a number that passes is among those that pass
pub among_counting : (test : ℕ → Bool) (s at n : ℕ) → at ≤ s → s < at + n → test s ≡ true → Among s (sift test (up_from at n))
among_counting test s at zero h l e = absurd (omega arith)
among_counting test s at (suc n) h l e = go (eqb at s) refl (test at) refl (among_counting test s (at + 1) n)
  where
    go : (a : Bool) → eqb at s ≡ a → (b : Bool) → test at ≡ b → (at + 1 ≤ s → s < at + 1 + n → test s ≡ true → Among s (sift test (up_from (at + 1) n)))
        → Among s (cond b (at ∷ sift test (up_from (at + 1) n)) (sift test (up_from (at + 1) n)))
    go true p true q f = rw p (omega arith)
    go true p false q f = absurd (true≢false (sym e ∙ ap test (sym (eqb-true at s p)) ∙ q))
    go false p true q f = let ne : at ≡ s → ⊥ = eqb-false at s p in rw p (f (omega arith) (omega arith) e)
    go false p false q f = let ne : at ≡ s → ⊥ = eqb-false at s p in f (omega arith) (omega arith) e

-- numbers from `at` on are above all that are below `at`
pub above : (s at n : ℕ) → s < at → Every (λ t. s < t) (up_from at n)
above s at zero h = tt
above s at (suc n) h = (h, above s (at + 1) n (omega arith))

pub counting_rises : (at n : ℕ) → RisingBy (λ s. s) (up_from at n)
counting_rises at zero = tt
counting_rises at (suc n) = (above at (at + 1) n (omega arith), counting_rises (at + 1) n)
