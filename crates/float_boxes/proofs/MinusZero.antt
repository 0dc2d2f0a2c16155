-- x + -0 is x for every x that fits, +0 and -0 among them: the exact sum is x with the sign of x, which by `round_self` rounds to itself.
use mathlib.Core.Path.{◌≡◌, refl}
use mathlib.Core.Bool.{Bool, true, false}
use Prim.Native.Nat.{ℕ, ◌*◌}
use native.Mathlib.Nat.{add-zero, sub-zero, zero-mul, mul-one}
use native.Mathlib.Omega.{arith}
use lib.Dec.{T}
use lib.Ieee.{Float, nan, inf, fin, binary32, up, down, round, sum, add, of_bits, fits}
use borrow.Author.Tests.{le-ltb}
use Rattle.float32.proofs.Exactness.{round_self}

sum_with_minus_zero : (s : Bool) (a c : ℕ) → sum binary32 s a true 0 c ≡ round binary32 s a c
unfolding sum
sum_with_minus_zero true a c = rw (add-zero a) refl
sum_with_minus_zero false a c = rw (le-ltb a 0 (omega arith), sub-zero a) refl

pub add_minus_zero : (x : Float) → T (fits binary32 x) → add binary32 x (of_bits binary32 0x8000_0000) ≡ x
unfolding add of_bits
add_minus_zero nan h = refl
add_minus_zero (inf s) h = refl
add_minus_zero (fin s m e) h =
    rw (mul-one (m * up e), mul-one (down e), zero-mul (down e), sum_with_minus_zero s (m * up e) (down e)) (round_self binary32 s m e h)
