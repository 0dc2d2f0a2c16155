-- Tests joined by `&&` and `||`, of which one is known; tests that say the same; and choices by a test. Assumes nothing.
-- That both of `a && b` hold is mathlib's `and-eq-true_iff`; a test as a fact and back are `passes` and `is_true` of `denote.Floats`.
use mathlib.Core.Path.{◌≡◌, refl, sym, subst, ◌∙◌}
use mathlib.Core.Logic.{◌⊎◌, inl, inr}
use mathlib.Core.Bool.{Bool, true, false, cond, ◌&&◌, ◌||◌}
use Prim.Native.Nat.{ℕ}
use lib.Dec.{T, eqb}
use borrow.Author.Tests.{eq-eqb, ne_eqb}

pub and_yes : {a : Bool} (b : Bool) → a ≡ true → a && b ≡ b
and_yes b h = rw h

pub and_no : {a : Bool} (b : Bool) → a ≡ false → a && b ≡ false
and_no b h = rw h

pub or_yes : {a : Bool} (b : Bool) → a ≡ true → a || b ≡ true
or_yes b h = rw h

pub or_no : {a : Bool} (b : Bool) → a ≡ false → a || b ≡ b
or_no b h = rw h

pub both_yes : {a b : Bool} → a ≡ true → b ≡ true → a && b ≡ true
both_yes {a} {b} h k = and_yes b h ∙ k

pub neither : (a b : Bool) → a || b ≡ false → (a ≡ false) × (b ≡ false)
neither true b e = absurd (subst T e tt)
neither false b e = (refl, e)

pub either_second : (a b : Bool) → a || b ≡ true → a ≡ false → b ≡ true
either_second a b h e = sym (or_no b e) ∙ h

-- Three tests, a, b and c, by what their results p, q and r say.
pub third : {a b c p q r : Bool} → p ≡ a → q ≡ b → r ≡ c → p ≡ true → q ≡ true → r ≡ a && (b && c)
third {a} {b} {c} ea eb ec hp hq = ec ∙ sym (and_yes (b && c) (sym ea ∙ hp) ∙ and_yes c (sym eb ∙ hq))

pub second : {a b p q : Bool} (c : Bool) → p ≡ a → q ≡ b → p ≡ true → q ≡ false → q ≡ a && (b && c)
second {a} {b} c ea eb hp hq = hq ∙ sym (and_yes (b && c) (sym ea ∙ hp) ∙ and_no c (sym eb ∙ hq))

pub first : {a p : Bool} (x : Bool) → p ≡ a → p ≡ false → p ≡ a && x
first x ea hp = hp ∙ sym (and_no x (sym ea ∙ hp))

-- tests that say the same are equal
pub T_ext : (a b : Bool) → (T a → T b) → (T b → T a) → a ≡ b
T_ext true true h k = refl
T_ext true false h k = absurd (h tt)
T_ext false true h k = absurd (k tt)
T_ext false false h k = refl

-- ---- a choice between two

pub cond_either : {A : Type 0} (t : Bool) (a b : A) → (cond t a b ≡ a) ⊎ (cond t a b ≡ b)
cond_either true a b = inl refl
cond_either false a b = inr refl

pub cond_both : {A : Type 0} (P : A → Type 0) (t : Bool) (a b : A) → P a → P b → P (cond t a b)
cond_both P true a b h k = h
cond_both P false a b h k = k

pub cond_through : {A B : Type 0} (g : A → B) (t : Bool) (a b : A) → g (cond t a b) ≡ cond t (g a) (g b)
cond_through g true a b = refl
cond_through g false a b = refl

-- by whether a number is 0
pub when : {A : Type 0} (n : ℕ) (a b : A) → n ≡ 0 → cond (eqb n 0) a b ≡ a
when n a b e = rw (eq-eqb n 0 e)

pub unless : {A : Type 0} (n : ℕ) (a b : A) → (n ≡ 0 → ⊥) → cond (eqb n 0) a b ≡ b
unless n a b e = rw (ne_eqb n 0 e)
