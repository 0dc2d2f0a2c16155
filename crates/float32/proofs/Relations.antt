-- The four relations of IEEE 754-2019, 5.11: `relation_of` holds, and no other does. What <, <=, ==, !=, > and >= say of it, NaN and both zeros
-- included. Assumes nothing.
use mathlib.Core.Path.{◌≡◌, refl, sym, ap, ◌∙◌, subst}
use mathlib.Core.Logic.{◌⊎◌, inl, inr}
use mathlib.Core.Bool.{Bool, true, false, not, cond, ◌&&◌, ◌||◌}
use Prim.Native.Nat.{ℕ, ◌+◌, ◌*◌, ◌<◌, compare}
use Prim.Native.Nat as Nat
use native.Mathlib.Nat.{zero-mul, zero-add, add-zero, add_comm}
use native.Mathlib.Omega.{arith}
use lib.Dec.{T, eqb, compare_is_eq}
use lib.IntN.{ℤ}
use lib.Ieee.{Float, nan, inf, fin, up, down, below, level, lt, le, eq, ne, is_nan, binary32, of_bits}
use borrow.Author.Tests.{eq-eqb, eqb-true}
use Rattle.std.specs.Prelude.{Option, None, Some}
use Rattle.std.specs.declared.cmp.Ordering.{Ordering}
use Rattle.std.specs.declared.cmp.Ordering.TheVariants.{Less, Equal, Greater}
use Rattle.std.specs.Ordering.{is_some_and, ordering_reverse}
use Rattle.std.specs.Ordering as O
use Rattle.std.specs.Option.{option_map}
use Rattle.float32.specs.Comparison.{Meaning, none, lowest, highest, ratio, meaning, Apart, Related, of_ordering, relate, relation_of}
use Rattle.float32.proofs.Trichotomy.{Compared, less, same, more, compared, compare_is, turned, compare_turned, is_lt, ltb_is}

-- ---- exactly one of the four holds

relate_holds : (a b : Meaning) → Related (relate a b) a b
unfolding relate
relate_holds none b = inl refl
relate_holds lowest none = inr refl
relate_holds lowest lowest = tt
relate_holds lowest highest = tt
relate_holds lowest (ratio p q d) = tt
relate_holds highest none = inr refl
relate_holds highest lowest = tt
relate_holds highest highest = tt
relate_holds highest (ratio p q d) = tt
relate_holds (ratio p q d) none = inr refl
relate_holds (ratio p q d) lowest = tt
relate_holds (ratio p q d) highest = tt
relate_holds (ratio p q d) (ratio p' q' d') = go (compare (p * d' + q' * d) (p' * d + q * d')) (compared (p * d' + q' * d) (p' * d + q * d'))
  where
    go : (o : Nat.Ordering) → Compared (p * d' + q' * d) (p' * d + q * d') o → Related (of_ordering o) (ratio p q d) (ratio p' q' d')
    go Prim.Native.Nat.Ordering.lt (less h) = h
    go Prim.Native.Nat.Ordering.eq (same e) = e
    go Prim.Native.Nat.Ordering.gt (more h) = h

pub relation_holds : (x y : Float) → Related (relation_of x y) (meaning x) (meaning y)
unfolding relation_of
relation_holds x y = relate_holds (meaning x) (meaning y)

to_none : (a : Meaning) → None ≡ relate a none
unfolding relate
to_none none = refl
to_none lowest = refl
to_none highest = refl
to_none (ratio p q d) = refl

relate_only : (r : Option Ordering) (a b : Meaning) → Related r a b → r ≡ relate a b
unfolding relate
relate_only (Some Less) none b h = absurd h
relate_only (Some Less) lowest none h = absurd h
relate_only (Some Less) lowest lowest h = absurd h
relate_only (Some Less) lowest highest h = refl
relate_only (Some Less) lowest (ratio p q d) h = refl
relate_only (Some Less) highest b h = absurd h
relate_only (Some Less) (ratio p q d) none h = absurd h
relate_only (Some Less) (ratio p q d) lowest h = absurd h
relate_only (Some Less) (ratio p q d) highest h = refl
relate_only (Some Less) (ratio p q d) (ratio p' q' d') h = ap of_ordering (sym (compare_is (less h)))
relate_only (Some Equal) none b h = absurd h
relate_only (Some Equal) lowest none h = absurd h
relate_only (Some Equal) lowest lowest h = refl
relate_only (Some Equal) lowest highest h = absurd h
relate_only (Some Equal) lowest (ratio p q d) h = absurd h
relate_only (Some Equal) highest none h = absurd h
relate_only (Some Equal) highest lowest h = absurd h
relate_only (Some Equal) highest highest h = refl
relate_only (Some Equal) highest (ratio p q d) h = absurd h
relate_only (Some Equal) (ratio p q d) none h = absurd h
relate_only (Some Equal) (ratio p q d) lowest h = absurd h
relate_only (Some Equal) (ratio p q d) highest h = absurd h
relate_only (Some Equal) (ratio p q d) (ratio p' q' d') h = ap of_ordering (sym (compare_is (same h)))
relate_only (Some Greater) a none h = absurd h
relate_only (Some Greater) none lowest h = absurd h
relate_only (Some Greater) lowest lowest h = absurd h
relate_only (Some Greater) highest lowest h = refl
relate_only (Some Greater) (ratio p q d) lowest h = refl
relate_only (Some Greater) a highest h = absurd h
relate_only (Some Greater) none (ratio p q d) h = absurd h
relate_only (Some Greater) lowest (ratio p q d) h = absurd h
relate_only (Some Greater) highest (ratio p q d) h = refl
relate_only (Some Greater) (ratio p' q' d') (ratio p q d) h = ap of_ordering (sym (compare_is (more h)))
relate_only None a b (inl e) = ap (λ (z : Meaning). relate z b) (sym e)
relate_only None a b (inr e) = to_none a ∙ ap (relate a) (sym e)

-- a relation that holds is the one that `relation_of` names
pub relation_only : (r : Option Ordering) (x y : Float) → Related r (meaning x) (meaning y) → r ≡ relation_of x y
unfolding relation_of
relation_only r x y h = relate_only r (meaning x) (meaning y) h

pub relation_one : (r s : Option Ordering) (x y : Float) → Related r (meaning x) (meaning y) → Related s (meaning x) (meaning y) → r ≡ s
relation_one r s x y h k = relation_only r x y h ∙ sym (relation_only s x y k)

-- ---- the operators

-- ±a compared with ±b
abbrev signed : Bool → ℕ → Bool → ℕ → Nat.Ordering
signed false a false b = compare a b
signed false a true b = compare (a + b) 0
signed true a false b = compare 0 (a + b)
signed true a true b = compare b a

relation_signed : (s : Bool) (m : ℕ) (e : ℤ) (t : Bool) (n : ℕ) (d : ℤ)
    → relation_of (fin s m e) (fin t n d) ≡ of_ordering (signed s (m * up e * down d) t (n * up d * down e))
unfolding relation_of
relation_signed false m e false n d = simp (zero-mul, add-zero)
relation_signed false m e true n d = simp (zero-mul, add-zero)
relation_signed true m e false n d = simp (zero-mul, add-zero) (ap (λ (z : ℕ). of_ordering (compare 0 z)) (add_comm (n * up d * down e) (m * up e * down d)))
relation_signed true m e true n d = simp (zero-mul, zero-add)

less_is : (o : Nat.Ordering) → is_lt o ≡ is_some_and O.is_lt (of_ordering o)
less_is Prim.Native.Nat.Ordering.lt = refl
less_is Prim.Native.Nat.Ordering.eq = refl
less_is Prim.Native.Nat.Ordering.gt = refl

below_is : (s : Bool) (a : ℕ) (t : Bool) (b : ℕ) → below s a t b ≡ is_some_and O.is_lt (of_ordering (signed s a t b))
below_is false a false b = ltb_is a b ∙ less_is (compare a b)
below_is false a true b = go (compare (a + b) 0) (compared (a + b) 0)
  where
    go : (o : Nat.Ordering) → Compared (a + b) 0 o → false ≡ is_some_and O.is_lt (of_ordering o)
    go Prim.Native.Nat.Ordering.lt (less h) = absurd (omega arith)
    go Prim.Native.Nat.Ordering.eq (same e) = refl
    go Prim.Native.Nat.Ordering.gt (more h) = refl
below_is true a false b = ltb_is 0 (a + b) ∙ less_is (compare 0 (a + b))
below_is true a true b = ltb_is b a ∙ less_is (compare b a)

pub lt_says : (x y : Float) → lt x y ≡ is_some_and O.is_lt (relation_of x y)
unfolding lt relation_of
lt_says nan y = refl
lt_says (inf true) nan = refl
lt_says (inf true) (inf true) = refl
lt_says (inf true) (inf false) = refl
lt_says (inf true) (fin true n d) = refl
lt_says (inf true) (fin false n d) = refl
lt_says (inf false) nan = refl
lt_says (inf false) (inf true) = refl
lt_says (inf false) (inf false) = refl
lt_says (inf false) (fin true n d) = refl
lt_says (inf false) (fin false n d) = refl
lt_says (fin true m e) nan = refl
lt_says (fin true m e) (inf true) = refl
lt_says (fin true m e) (inf false) = refl
lt_says (fin false m e) nan = refl
lt_says (fin false m e) (inf true) = refl
lt_says (fin false m e) (inf false) = refl
lt_says (fin s m e) (fin t n d) = below_is s (m * up e * down d) t (n * up d * down e) ∙ ap (is_some_and O.is_lt) (sym (relation_signed s m e t n d))

equal_is : (o : Nat.Ordering) → compare_is_eq o && true ≡ is_some_and O.is_eq (of_ordering o)
equal_is Prim.Native.Nat.Ordering.lt = refl
equal_is Prim.Native.Nat.Ordering.eq = refl
equal_is Prim.Native.Nat.Ordering.gt = refl

equal_turned : (a b : ℕ) → is_some_and O.is_eq (of_ordering (compare b a)) ≡ is_some_and O.is_eq (of_ordering (compare a b))
equal_turned a b = ap (λ (o : Nat.Ordering). is_some_and O.is_eq (of_ordering o)) (compare_turned a b) ∙ go (compare a b)
  where
    go : (o : Nat.Ordering) → is_some_and O.is_eq (of_ordering (turned o)) ≡ is_some_and O.is_eq (of_ordering o)
    go Prim.Native.Nat.Ordering.lt = refl
    go Prim.Native.Nat.Ordering.eq = refl
    go Prim.Native.Nat.Ordering.gt = refl

-- ±a and ±b of unlike signs are equal where both are zeros
zeros_is : (a b : ℕ) → eqb a b && eqb a 0 ≡ is_some_and O.is_eq (of_ordering (compare (a + b) 0))
zeros_is a b = go (compare (a + b) 0) (compared (a + b) 0)
  where
    never : (u v : Bool) → (u ≡ true → v ≡ true → ⊥) → u && v ≡ false
    never true true h = absurd (h refl refl)
    never true false h = refl
    never false v h = refl

    some : (a b : ℕ) → 0 < a + b → a ≡ b → a ≡ 0 → ⊥
    some a b h k l = omega arith

    go : (o : Nat.Ordering) → Compared (a + b) 0 o → eqb a b && eqb a 0 ≡ is_some_and O.is_eq (of_ordering o)
    go Prim.Native.Nat.Ordering.lt (less h) = absurd (omega arith)
    go Prim.Native.Nat.Ordering.eq (same e) = rw (eq-eqb a b (omega arith), eq-eqb a 0 (omega arith))
    go Prim.Native.Nat.Ordering.gt (more h) = never (eqb a b) (eqb a 0) (λ k l. some a b h (eqb-true a b k) (eqb-true a 0 l))

level_is : (s : Bool) (a : ℕ) (t : Bool) (b : ℕ) → level s a t b ≡ is_some_and O.is_eq (of_ordering (signed s a t b))
level_is false a false b = equal_is (compare a b)
level_is false a true b = zeros_is a b
level_is true a false b = zeros_is a b ∙ equal_turned 0 (a + b)
level_is true a true b = equal_is (compare a b) ∙ equal_turned b a

pub eq_says : (x y : Float) → eq x y ≡ is_some_and O.is_eq (relation_of x y)
unfolding eq relation_of
eq_says nan y = refl
eq_says (inf true) nan = refl
eq_says (inf true) (inf true) = refl
eq_says (inf true) (inf false) = refl
eq_says (inf true) (fin true n d) = refl
eq_says (inf true) (fin false n d) = refl
eq_says (inf false) nan = refl
eq_says (inf false) (inf true) = refl
eq_says (inf false) (inf false) = refl
eq_says (inf false) (fin true n d) = refl
eq_says (inf false) (fin false n d) = refl
eq_says (fin true m e) nan = refl
eq_says (fin true m e) (inf true) = refl
eq_says (fin true m e) (inf false) = refl
eq_says (fin false m e) nan = refl
eq_says (fin false m e) (inf true) = refl
eq_says (fin false m e) (inf false) = refl
eq_says (fin s m e) (fin t n d) = level_is s (m * up e * down d) t (n * up d * down e) ∙ ap (is_some_and O.is_eq) (sym (relation_signed s m e t n d))

pub le_says : (x y : Float) → le x y ≡ (is_some_and O.is_lt (relation_of x y) || is_some_and O.is_eq (relation_of x y))
unfolding le
le_says x y = rw (lt_says x y, eq_says x y)

pub ne_says : (x y : Float) → ne x y ≡ not (is_some_and O.is_eq (relation_of x y))
unfolding ne
ne_says x y = ap not (eq_says x y)

-- ---- the other way round: `y < x` is `x > y`

relate_mirrored : (a b : Meaning) → relate b a ≡ option_map ordering_reverse (relate a b)
unfolding relate
relate_mirrored none none = refl
relate_mirrored none lowest = refl
relate_mirrored none highest = refl
relate_mirrored none (ratio p q d) = refl
relate_mirrored lowest none = refl
relate_mirrored lowest lowest = refl
relate_mirrored lowest highest = refl
relate_mirrored lowest (ratio p q d) = refl
relate_mirrored highest none = refl
relate_mirrored highest lowest = refl
relate_mirrored highest highest = refl
relate_mirrored highest (ratio p q d) = refl
relate_mirrored (ratio p q d) none = refl
relate_mirrored (ratio p q d) lowest = refl
relate_mirrored (ratio p q d) highest = refl
relate_mirrored (ratio p q d) (ratio p' q' d') =
    ap of_ordering (compare_turned (p * d' + q' * d) (p' * d + q * d')) ∙ go (compare (p * d' + q' * d) (p' * d + q * d'))
  where
    go : (o : Nat.Ordering) → of_ordering (turned o) ≡ option_map ordering_reverse (of_ordering o)
    go Prim.Native.Nat.Ordering.lt = refl
    go Prim.Native.Nat.Ordering.eq = refl
    go Prim.Native.Nat.Ordering.gt = refl

pub relation_mirrored : (x y : Float) → relation_of y x ≡ option_map ordering_reverse (relation_of x y)
unfolding relation_of
relation_mirrored x y = relate_mirrored (meaning x) (meaning y)

pub gt_says : (x y : Float) → lt y x ≡ is_some_and O.is_gt (relation_of x y)
gt_says x y = lt_says y x ∙ ap (is_some_and O.is_lt) (relation_mirrored x y) ∙ go (relation_of x y)
  where
    go : (r : Option Ordering) → is_some_and O.is_lt (option_map ordering_reverse r) ≡ is_some_and O.is_gt r
    go (Some Less) = refl
    go (Some Equal) = refl
    go (Some Greater) = refl
    go None = refl

pub ge_says : (x y : Float) → le y x ≡ (is_some_and O.is_gt (relation_of x y) || is_some_and O.is_eq (relation_of x y))
ge_says x y = le_says y x ∙ ap (λ (r : Option Ordering). is_some_and O.is_lt r || is_some_and O.is_eq r) (relation_mirrored x y) ∙ go (relation_of x y)
  where
    go : (r : Option Ordering) → (is_some_and O.is_lt (option_map ordering_reverse r) || is_some_and O.is_eq (option_map ordering_reverse r)) ≡ (is_some_and O.is_gt r || is_some_and O.is_eq r)
    go (Some Less) = refl
    go (Some Equal) = refl
    go (Some Greater) = refl
    go None = refl

-- ---- the relation, by the tests of a program

yes_less : (r : Option Ordering) → is_some_and O.is_lt r ≡ true → Some Less ≡ r
yes_less (Some Less) e = refl
yes_less (Some Equal) e = absurd (subst T (sym e) tt)
yes_less (Some Greater) e = absurd (subst T (sym e) tt)
yes_less None e = absurd (subst T (sym e) tt)

pub less_if : (x y : Float) → lt x y ≡ true → Some Less ≡ relation_of x y
less_if x y e = yes_less (relation_of x y) (sym (lt_says x y) ∙ e)

some : Meaning → Bool
some none = false
some lowest = true
some highest = true
some (ratio p q d) = true

only_nan : (x : Float) → meaning x ≡ none → is_nan x ≡ true
unfolding is_nan some
only_nan nan e = refl
only_nan (inf true) e = sym (ap some e)
only_nan (inf false) e = sym (ap some e)
only_nan (fin true m d) e = sym (ap some e)
only_nan (fin false m d) e = sym (ap some e)

pub unordered_nan : (x y : Float) → relation_of x y ≡ None → (is_nan x ≡ true) ⊎ (is_nan y ≡ true)
unordered_nan x y e = go (subst (λ (r : Option Ordering). Related r (meaning x) (meaning y)) e (relation_holds x y))
  where
    go : Apart (meaning x) (meaning y) → (is_nan x ≡ true) ⊎ (is_nan y ≡ true)
    go (inl h) = inl (only_nan x h)
    go (inr h) = inr (only_nan y h)

nan_unordered : (x y : Float) → (is_nan x || is_nan y) ≡ true → relation_of x y ≡ None
unfolding relation_of is_nan
nan_unordered nan y e = refl
nan_unordered (inf s) nan e = sym (to_none (meaning (inf s)))
nan_unordered (inf s) (inf t) e = absurd (subst T (sym e) tt)
nan_unordered (inf s) (fin t n d) e = absurd (subst T (sym e) tt)
nan_unordered (fin s m d) nan e = sym (to_none (meaning (fin s m d)))
nan_unordered (fin s m d) (inf t) e = absurd (subst T (sym e) tt)
nan_unordered (fin s m d) (fin t n k) e = absurd (subst T (sym e) tt)

pub by_tests : (x y : Float)
    → relation_of x y ≡ cond (is_nan x || is_nan y) None (cond (lt x y) (Some Less) (cond (eq x y) (Some Equal) (Some Greater)))
by_tests x y =
    rw (lt_says x y, eq_says x y)
    (go (relation_of x y) (is_nan x || is_nan y) (λ e. either (is_nan x) (is_nan y) (unordered_nan x y e)) (nan_unordered x y))
  where
    either : (a b : Bool) → (a ≡ true) ⊎ (b ≡ true) → (a || b) ≡ true
    either true b h = refl
    either false b (inl e) = absurd (subst T (sym e) tt)
    either false b (inr e) = e

    go : (r : Option Ordering) (b : Bool) → (r ≡ None → b ≡ true) → (b ≡ true → r ≡ None)
        → r ≡ cond b None (cond (is_some_and O.is_lt r) (Some Less) (cond (is_some_and O.is_eq r) (Some Equal) (Some Greater)))
    go None b h k = rw (h refl) refl
    go (Some o) true h k = k refl
    go (Some Less) false h k = refl
    go (Some Equal) false h k = refl
    go (Some Greater) false h k = refl

-- ---- worked examples

zeros_equal : relation_of (of_bits binary32 0x8000_0000) (of_bits binary32 0) ≡ Some Equal
unfolding relation_of of_bits
zeros_equal = refl

nans_unordered : relation_of nan nan ≡ None
unfolding relation_of
nans_unordered = refl

lowest_less : (s : Bool) (m : ℕ) (e : ℤ) → relation_of (inf true) (fin s m e) ≡ Some Less
unfolding relation_of
lowest_less true m e = refl
lowest_less false m e = refl

one_less_two : relation_of (of_bits binary32 0x3f80_0000) (of_bits binary32 0x4000_0000) ≡ Some Less
unfolding relation_of of_bits
one_less_two = refl
