-- Tests that are counted: two counts together have no failure exactly where both have none; and counts up to a number.
use Prim.Native.Nat.{ℕ, zero, suc, ◌+◌, ◌≤◌, ◌<◌}
use native.Mathlib.Omega.{arith}
use native.Mathlib.Numerals.{add-one}
use mathlib.Core.Path.{◌≡◌, refl, sym, ap, ap₂, ◌∙◌}
use mathlib.Core.Bool.{Bool, true, false, not, ◌&&◌, ◌||◌, true≢false}
use lib.Dec.{eqb}
use borrow.Author.Tests.{ne_eqb, not-true}
use borrow.Author.Count.{below_more}
use Rattle.rays.specs.Steps.Counting.{count_to, none_to, Failed}
use Rattle.std.specs.Int.{from_bool}
use Rattle.base.specs.Lists.{one_if}
use Rattle.base.proofs.ListLaws.{one_or_none}

pub zero_sum : (r s : ℕ) → eqb (r + s) 0 ≡ eqb r 0 && eqb s 0
zero_sum zero s = let e : 0 + s ≡ s = omega arith in rw e
zero_sum (suc r) s = ne_eqb (suc r + s) 0 (λ h. omega arith) ∙ sym (ap (λ (b : Bool). b && eqb s 0) (ne_eqb (suc r) 0 (λ h. omega arith)))

-- a test counted by itself
pub failed_by : (good : Bool) (r : ℕ) → r ≡ from_bool (not good) → Failed 1 good r
failed_by true r e = record { none = ap (λ (k : ℕ). eqb k 0) e; few = omega (arith, e) }
failed_by false r e = record { none = ap (λ (k : ℕ). eqb k 0) e; few = omega (arith, e) }

-- both groups of tests together
pub together : {m n : ℕ} {a b : Bool} {r s : ℕ} → Failed m a r → Failed n b s → Failed (m + n) (a && b) (r + s)
together {m} {n} {a} {b} {r} {s} f g =
    record { none = zero_sum r s ∙ ap₂ (λ (x y : Bool). x && y) f.none g.none; few = omega (arith, f.few, g.few) }

-- one number more
pub count_more_lem : (n : ℕ) (p : ℕ → Bool) → count_to (n + 1) p ≡ count_to n p + one_if (p n)
count_more_lem n p = rw add-one

pub count_few : (n : ℕ) (p : ℕ → Bool) → count_to n p ≤ n
count_few zero p = omega arith
count_few (suc n) p = omega (arith, count_few n p, one_or_none (p n))

pub none_of_three : (a b c : Bool) → not a && (not b && not c) ≡ not (a || (b || c))
none_of_three true b c = refl
none_of_three false true c = refl
none_of_three false false c = refl

-- ---- none of the first n

pub none_more : (n : ℕ) (p : ℕ → Bool) → none_to (n + 1) p ≡ none_to n p && not (p n)
none_more n p = rw add-one

and_not : (a b : Bool) → a && not b ≡ true → (a ≡ true) × (b ≡ false)
and_not true b e = (refl, not-true b e)
and_not false b e = absurd (true≢false (sym e))

pub none_at : (n : ℕ) (p : ℕ → Bool) → none_to n p ≡ true → (k : ℕ) → k < n → p k ≡ false
none_at zero p e k h = absurd (omega arith)
none_at (suc n) p e k h =
    let rest = and_not (none_to n p) (p n) e in
    below_more (λ (k : ℕ). p k ≡ false) n (none_at n p rest.0) rest.1 k (omega arith)

-- none below n, and none at n
pub none_next : (n : ℕ) (p : ℕ → Bool) → none_to n p ≡ true → p n ≡ false → none_to (n + 1) p ≡ true
none_next n p e h = none_more n p ∙ rw (e, h)

-- where no number passes, none below n does
pub all_none : (n : ℕ) (p : ℕ → Bool) → ((k : ℕ) → k < n → p k ≡ false) → none_to n p ≡ true
all_none zero p h = refl
all_none (suc n) p h = rw (all_none n p (λ k l. h k (omega arith)), h n (omega arith))

pub some_at : (n : ℕ) (p : ℕ → Bool) (k : ℕ) → k < n → p k ≡ true → none_to n p ≡ false
some_at n p k h e = go (none_to n p) refl
  where
    go : (b : Bool) → none_to n p ≡ b → b ≡ false
    go true all = absurd (true≢false (sym e ∙ none_at n p all k h))
    go false some = refl

-- ---- a count of nothing

zero_if : (b : Bool) → eqb (one_if b) 0 ≡ not b
zero_if true = refl
zero_if false = refl

pub count_zero : (n : ℕ) (p : ℕ → Bool) → eqb (count_to n p) 0 ≡ none_to n p
count_zero zero p = refl
count_zero (suc n) p = zero_sum (count_to n p) (one_if (p n)) ∙ ap₂ (λ (x y : Bool). x && y) (count_zero n p) (zero_if (p n))

pub count_same : (n : ℕ) (p q : ℕ → Bool) → ((k : ℕ) → k < n → p k ≡ q k) → count_to n p ≡ count_to n q
count_same zero p q h = refl
count_same (suc n) p q h = ap₂ ◌+◌ (count_same n p q (λ k l. h k (omega arith))) (ap one_if (h n (omega arith)))
