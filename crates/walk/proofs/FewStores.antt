-- Four stores of one to four positions: after a store at i there are i + 1 of them, be it the next one or the last one again.
use Rattle.std.specs.Prelude.{◌≡◌, ℕ, zero, suc, ◌+◌, ◌-◌, ◌≤◌, min, Bool, true, false, ltb, List, [], ◌∷◌, set}
use mathlib.Core.Path.{refl, sym, ap, ◌∙◌}
use native.Mathlib.Omega.{arith}
use borrow.Author.Tests.{ltb-true, ltb-false}
use lib.Seq.{sets}
use Rattle.base.proofs.StoreLaws.{up_stored}
use Rattle.base.specs.Lists.{up_from}

set_twice : {A : Type 0} (l : List A) (i : ℕ) (x : A) → set (set l i x) i x ≡ set l i x
set_twice [] i x = refl
set_twice (y ∷ l) zero x = refl
set_twice (y ∷ l) (suc i) x = ap (λ (m : List _). y ∷ m) (set_twice l i x)

store : (l o : List ℕ) (from id k i : ℕ) → o ≡ sets l from (up_from id k) → i ≤ k → k ≤ i + 1 → set o (from + i) (id + i) ≡ sets l from (up_from id (i + 1))
store l o from id k i e h j = go (ltb i k) refl
  where
    go : (b : Bool) → ltb i k ≡ b → set o (from + i) (id + i) ≡ sets l from (up_from id (i + 1))
    go true t =
        let z = ltb-true i k t in
        let s : k ≡ i + 1 = omega arith in
        let w = e ∙ ap (λ (m : ℕ). sets l from (up_from id m)) s ∙ sym (up_stored l from id i) in
        ap (λ (m : List ℕ). set m (from + i) (id + i)) w ∙ set_twice (sets l from (up_from id i)) (from + i) (id + i) ∙ up_stored l from id i
    go false t =
        let z = ltb-false i k t in
        let s : k ≡ i = omega arith in
        ap (λ (m : List ℕ). set m (from + i) (id + i)) (e ∙ ap (λ (m : ℕ). sets l from (up_from id m)) s) ∙ up_stored l from id i

pub four_stored : (l o₁ o₂ o₃ o₄ : List ℕ) (from id n a b : ℕ) → 1 ≤ n → n ≤ 4 → a ≡ min (n - 1) 1 → b ≡ min (n - 1) 2
    → o₁ ≡ set l (from + 0) (id + 0) → o₂ ≡ set o₁ (from + a) (id + a) → o₃ ≡ set o₂ (from + b) (id + b)
    → o₄ ≡ set o₃ (from + (n - 1)) (id + (n - 1)) → o₄ ≡ sets l from (up_from id n)
four_stored l o₁ o₂ o₃ o₄ from id n a b h j ea eb e₁ e₂ e₃ e₄ =
    let s₁ = e₁ ∙ store l l from id 0 0 refl (omega arith) (omega arith) in
    let s₂ = e₂ ∙ store l o₁ from id 1 a s₁ (omega arith) (omega arith) in
    let s₃ = e₃ ∙ store l o₂ from id (a + 1) b s₂ (omega arith) (omega arith) in
    let m : n - 1 + 1 ≡ n = omega arith in
    e₄ ∙ store l o₃ from id (b + 1) (n - 1) s₃ (omega arith) (omega arith) ∙ ap (λ (k : ℕ). sets l from (up_from id k)) m
