-- `low16` keeps the low 16 bits as the Rust Reference says, and no other function does: two numbers that differ by a multiple of 65536 have the same
-- low bits, and a number in range is its own.
use mathlib.Core.Path.{◌≡◌, refl, sym, ap, ◌∙◌}
use mathlib.Core.Bool.{Bool, true, false, cond}
use Prim.Native.Nat.{ℕ, suc, ◌-◌, ◌*◌, ◌≤◌, ◌<◌}
use native.Mathlib.Omega.{arith}
use lib.Dec.{ltb}
use lib.IntN.{ℤ, pos, negsuc, ◌+ℤ◌, ◌-ℤ◌, ◌*ℤ◌, -ℤ-+ℤ_cancel}
use borrow.Author.Tests.{ltb-true, ltb-false}
use Rattle.float32.specs.Casts.{low16bits, signed16, low16}
use Rattle.float_laws.specs.CastStandard.{LowBits}
use Rattle.float32.proofs.Low16.{low16_self, low16_in, low16_congruent}

-- Rule F7
pub low16_is : LowBits low16
low16_is = record { least = λ n. (low16_in n).0; most = λ n. (low16_in n).1; congruent = low16_congruent }

more_bits : (n : ℤ) (j : ℕ) → low16bits (n +ℤ pos (j * 65536)) ≡ low16bits n
more_bits (pos n) j = omega arith
more_bits (negsuc n) j = go (ltb (j * 65536) (suc n)) (ltb-true (j * 65536) (suc n)) (ltb-false (j * 65536) (suc n))
  where
    go : (b : Bool) → (b ≡ true → j * 65536 < suc n) → (b ≡ false → suc n ≤ j * 65536)
        → low16bits (cond b (negsuc (suc n - suc (j * 65536))) (pos (j * 65536 - suc n))) ≡ low16bits (negsuc n)
    go true h k = let l = h refl in omega arith
    go false h k = let l = k refl in omega arith

same_bits : (n k : ℤ) → low16 (n +ℤ k *ℤ pos 65536) ≡ low16 n
same_bits n (pos k) = ap signed16 (more_bits n k)
same_bits n (negsuc k) =
    let less = n -ℤ pos (suc k * 65536) in
    ap signed16 (sym (more_bits less (suc k)) ∙ ap low16bits (-ℤ-+ℤ_cancel n (pos (suc k * 65536))))

pub low16_only : (g : ℤ → ℤ) → LowBits g → (n : ℤ) → g n ≡ low16 n
low16_only g i n =
    let k = i.congruent n in
    sym (low16_self (g n) (i.least n) (i.most n)) ∙ sym (same_bits (g n) k.0) ∙ ap low16 (sym k.1)
