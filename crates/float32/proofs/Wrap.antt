-- -1 - n, which turns two's complement into a number and back, and what the machine reads of a signed number. Assumes nothing.
use mathlib.Core.Path.{◌≡◌, refl, sym, ap, ◌∙◌, subst}
use mathlib.Core.Bool.{Bool, true, false, cond}
use Prim.Native.Nat.{ℕ, zero, suc, ◌-◌, ◌^◌, ◌≤◌, ◌<◌}
use native.Mathlib.Omega.{arith}
use lib.Dec.{T, ltb, leb-zero}
use lib.IntN.{ℤ, pos, negsuc, neg_ℤ, nat_abs, ◌-ℤ◌, +ℤ_idl}
use lib.Pow.{pow_pos}
use lib.Signed.{le_z, non_neg}
use mir.Syntax.{Width, w16, w32}
use mir.Val.{Fits, SFits, hbits, to_z, of_z}
use mir.Facts.{to_z_pos}
use borrow.Author.Tests.{le-ltb, ltb-true, ltb-false}
use Rattle.float32.specs.Casts.{signed16}

up_one : (k : ℕ) → suc k - 1 ≡ k
up_one k = omega arith

one_le : (k : ℕ) → 1 ≤ suc k
one_le k = omega arith

pub flip_neg : (k : ℕ) → negsuc 0 -ℤ negsuc k ≡ pos k
flip_neg k = ap (λ (b : Bool). cond b (negsuc (1 - suc (suc k))) (pos (suc k - 1))) (le-ltb (suc k) 1 (one_le k)) ∙ ap pos (up_one k)

-- y ≥ 0, as an i32, is a u32
wide : (a : ℕ) → a < 2147483648 → a < 4294967296
wide a h = omega arith

pub cast_pos : (y : ℤ) → SFits w32 y → le_z (pos 0) y ≡ true → T (non_neg y) × Fits w32 (nat_abs y)
cast_pos (pos a) h t = (tt, record { fits = wide a h.sfits })
cast_pos (negsuc a) h t = absurd (subst T (sym t) tt)

-- y < 0: -1 - y is a number from 0, and fits
pub flip_fits : (y : ℤ) → SFits w32 y → le_z (pos 0) y ≡ false → SFits w32 (negsuc 0 -ℤ y)
flip_fits (pos a) h t = absurd (subst T (sym (leb-zero a) ∙ t) tt)
flip_fits (negsuc a) h t = subst (λ (z : ℤ). SFits w32 z) (sym (flip_neg a)) (record { sfits = h.sfits })

pub flip_cast : (y : ℤ) → SFits w32 y → le_z (pos 0) y ≡ false
    → T (non_neg (to_z w32 (of_z w32 (negsuc 0 -ℤ y)))) × Fits w32 (nat_abs (to_z w32 (of_z w32 (negsuc 0 -ℤ y))))
flip_cast (pos a) h t = absurd (subst T (sym (leb-zero a) ∙ t) tt)
flip_cast (negsuc a) h t =
    subst (λ (z : ℤ). T (non_neg z) × Fits w32 (nat_abs z)) (sym (ap (λ (z : ℤ). to_z w32 (of_z w32 z)) (flip_neg a) ∙ to_z_pos w32 h.sfits))
    (tt, record { fits = wide a h.sfits })

-- ---- back from 16 bits
flipped : (b : ℕ) → 32768 ≤ b → 65535 - b < 32768
flipped b h = omega arith

signed_fits_at : (b : ℕ) (t : Bool) → (t ≡ true → b < 32768) → (t ≡ false → 65535 - b < 32768) → SFits w16 (cond t (pos b) (negsuc (65535 - b)))
signed_fits_at b true h k = record { sfits = h refl }
signed_fits_at b false h k = record { sfits = k refl }

pub signed_fits : (b : ℕ) → SFits w16 (signed16 b)
signed_fits b = signed_fits_at b (ltb b 32768) (ltb-true b 32768) (λ h. flipped b (ltb-false b 32768 h))

-- ---- -n, for an n of the lower half of a width's words, read back at that width or at a narrower one
pub minus_is : (w : Width) (n : ℕ) → n < 2 ^ hbits w → pos 0 -ℤ to_z w n ≡ neg_ℤ (pos n)
minus_is w n h = ap (λ (z : ℤ). pos 0 -ℤ z) (to_z_pos w h) ∙ +ℤ_idl (neg_ℤ (pos n))

pub minus_fits : (w : Width) (n : ℕ) → n ≤ 2 ^ hbits w → SFits w (neg_ℤ (pos n))
minus_fits w zero h = record { sfits = pow_pos (hbits w) }
minus_fits w (suc n) h = record { sfits = h }
