-- 2^100 and 2^-100 as words: a float is compared with the word's as with the power.
use Rattle.std.specs.Prelude.{◌≡◌, T}
use lib.Ieee.{Float, binary32, of_bits, le}
use Rattle.base.proofs.Truth.{T_ext}
use Rattle.float32.proofs.OrderLaws.{le_trans}
use Rattle.records.specs.Axis.{largest, smallest}

same_above : (x a b : Float) → T (le a b) → T (le b a) → le x a ≡ le x b
same_above x a b h k = T_ext (le x a) (le x b) (λ l. le_trans x a b l h) (λ l. le_trans x b a l k)

same_below : (x a b : Float) → T (le a b) → T (le b a) → le a x ≡ le b x
same_below x a b h k = T_ext (le a x) (le b x) (λ l. le_trans b a x k l) (λ l. le_trans a b x h l)

pub at_most : (x : Float) → le x (of_bits binary32 0x7180_0000) ≡ le x largest
at_most x = same_above x (of_bits binary32 0x7180_0000) largest (unfold of_bits le in tt) (unfold of_bits le in tt)

pub at_least : (x : Float) → le (of_bits binary32 0x0d80_0000) x ≡ le smallest x
at_least x = same_below x (of_bits binary32 0x0d80_0000) smallest (unfold of_bits le in tt) (unfold of_bits le in tt)
