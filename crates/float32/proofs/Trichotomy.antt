-- `compare` of two numbers says which of <, ≡ and > holds, so it is decided by the one that does. Assumes nothing.
use mathlib.Core.Path.{◌≡◌, refl, sym, ap, subst}
use mathlib.Core.Bool.{Bool, true, false}
use Prim.Native.Nat.{ℕ, zero, suc, ◌<◌, zero-le, suc-le-suc, compare, Ordering}
use Prim.Native.Nat.compare
use native.Mathlib.Omega.{arith}
use lib.Dec.{ltb}
use borrow.Author.Tests.{lt-ltb, le-ltb}

pub data Compared (a b : ℕ) : Ordering → Type 0 where
  less : a < b → Compared a b Ordering.lt
  same : a ≡ b → Compared a b Ordering.eq
  more : b < a → Compared a b Ordering.gt

up : {a b : ℕ} {o : Ordering} → Compared a b o → Compared (suc a) (suc b) o
up (less h) = less (suc-le-suc h)
up (same e) = same (ap suc e)
up (more h) = more (suc-le-suc h)

pub compared : (a b : ℕ) → Compared a b (compare a b)
compared zero zero = subst (Compared 0 0) (sym compare.zero-zero) (same refl)
compared zero (suc b) = subst (Compared 0 (suc b)) (sym (compare.zero-suc b)) (less (suc-le-suc zero-le))
compared (suc a) zero = subst (Compared (suc a) 0) (sym (compare.suc-zero a)) (more (suc-le-suc zero-le))
compared (suc a) (suc b) = subst (Compared (suc a) (suc b)) (sym (compare.suc-suc a b)) (up (compared a b))

only : {a b : ℕ} {o o' : Ordering} → Compared a b o → Compared a b o' → o ≡ o'
only (less h) (less k) = refl
only (less h) (same k) = absurd (omega arith)
only (less h) (more k) = absurd (omega arith)
only (same h) (less k) = absurd (omega arith)
only (same h) (same k) = refl
only (same h) (more k) = absurd (omega arith)
only (more h) (less k) = absurd (omega arith)
only (more h) (same k) = absurd (omega arith)
only (more h) (more k) = refl

-- `compare` gives the one answer that holds
pub compare_is : {a b : ℕ} {o : Ordering} → Compared a b o → compare a b ≡ o
compare_is {a} {b} h = only (compared a b) h

abbrev pub turned : Ordering → Ordering
turned Ordering.lt = Ordering.gt
turned Ordering.eq = Ordering.eq
turned Ordering.gt = Ordering.lt

turn : {a b : ℕ} {o : Ordering} → Compared a b o → Compared b a (turned o)
turn (less h) = more h
turn (same e) = same (sym e)
turn (more h) = less h

pub compare_turned : (a b : ℕ) → compare b a ≡ turned (compare a b)
compare_turned a b = compare_is (turn (compared a b))

abbrev pub is_lt : Ordering → Bool
is_lt Ordering.lt = true
is_lt Ordering.eq = false
is_lt Ordering.gt = false

pub ltb_is : (a b : ℕ) → ltb a b ≡ is_lt (compare a b)
ltb_is a b = go (compare a b) (compared a b)
  where
    go : (o : Ordering) → Compared a b o → ltb a b ≡ is_lt o
    go Ordering.lt (less h) = lt-ltb a b h
    go Ordering.eq (same h) = le-ltb a b (omega arith)
    go Ordering.gt (more h) = le-ltb a b (omega arith)
