-- 32 bits in two's complement. Assumes nothing.
use Rattle.std.proofs.Common.{◌≡◌, ◌-◌, ℤ, pos, negsuc, refl, arith, w32, of_z}
use Rattle.replay.specs.Numbers.{signed_word}

pub word_is : (z : ℤ) → of_z w32 z ≡ signed_word z
word_is (pos n) = refl
word_is (negsuc n) = omega arith
