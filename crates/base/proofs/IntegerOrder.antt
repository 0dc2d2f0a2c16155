-- The order of integers, as the test `le_z`: reflexive, transitive, antisymmetric, and that of naturals on either side of zero.
use mathlib.Core.Path.{◌≡◌, ap}
use Prim.Native.Nat.{ℕ, zero, suc, ◌≤◌}
use native.Mathlib.Nat.{le_antisymm}
use native.Mathlib.Omega.{arith}
use lib.Dec.{T, leb→le, le→leb}
use lib.IntN.{ℤ, pos, negsuc, neg_ℤ}
use lib.Signed.{le_z}

pub le_z_refl_lem : (a : ℤ) → T (le_z a a)
le_z_refl_lem (pos a) = omega (arith, le→leb)
le_z_refl_lem (negsuc a) = omega (arith, le→leb)

pub le_z_trans_lem : (a b c : ℤ) → T (le_z a b) → T (le_z b c) → T (le_z a c)
le_z_trans_lem (pos a) (pos b) (pos c) h k = omega (arith, leb→le, le→leb)
le_z_trans_lem (pos a) (pos b) (negsuc c) h k = k
le_z_trans_lem (pos a) (negsuc b) c h k = absurd h
le_z_trans_lem (negsuc a) b (pos c) h k = tt
le_z_trans_lem (negsuc a) (pos b) (negsuc c) h k = absurd k
le_z_trans_lem (negsuc a) (negsuc b) (negsuc c) h k = omega (arith, leb→le, le→leb)

pub le_z_antisym_lem : (a b : ℤ) → T (le_z a b) → T (le_z b a) → a ≡ b
le_z_antisym_lem (pos a) (pos b) h k = ap pos (le_antisymm (leb→le a b h) (leb→le b a k))
le_z_antisym_lem (pos a) (negsuc b) h k = absurd h
le_z_antisym_lem (negsuc a) (pos b) h k = absurd k
le_z_antisym_lem (negsuc a) (negsuc b) h k = ap negsuc (le_antisymm (leb→le a b k) (leb→le b a h))

-- -a ≤ -b, and -a ≤ b
pub le_z_neg_lem : (a b : ℕ) → b ≤ a → T (le_z (neg_ℤ (pos a)) (neg_ℤ (pos b)))
le_z_neg_lem zero zero h = tt
le_z_neg_lem zero (suc b) h = omega arith
le_z_neg_lem (suc a) zero h = tt
le_z_neg_lem (suc a) (suc b) h = omega (arith, le→leb)

pub le_z_across_lem : (a b : ℕ) → T (le_z (neg_ℤ (pos a)) (pos b))
le_z_across_lem zero b = omega (arith, le→leb)
le_z_across_lem (suc a) b = tt
