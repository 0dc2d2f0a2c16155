-- Worked examples of the square root, each by computing it.
use mathlib.Core.Path.{◌≡◌, refl}
use lib.Ieee.{nan, binary32, of_bits, to_bits}
use Rattle.float32.specs.SquareRoot.{sqrt_of}

-- √2
two : sqrt_of binary32 (of_bits binary32 0x4000_0000) ≡ of_bits binary32 0x3fb5_04f3
unfolding of_bits sqrt_of
two = refl

two_bits : to_bits binary32 (sqrt_of binary32 (of_bits binary32 0x4000_0000)) ≡ 0x3fb5_04f3
unfolding of_bits sqrt_of to_bits
two_bits = refl

-- the least number above zero, which is subnormal, and the largest
least : sqrt_of binary32 (of_bits binary32 1) ≡ of_bits binary32 0x1a35_04f3
unfolding of_bits sqrt_of
least = refl

largest : sqrt_of binary32 (of_bits binary32 0x7f7f_ffff) ≡ of_bits binary32 0x5f7f_ffff
unfolding of_bits sqrt_of
largest = refl

-- 1 and the number after it have the same root
one : sqrt_of binary32 (of_bits binary32 0x3f80_0000) ≡ of_bits binary32 0x3f80_0000
unfolding of_bits sqrt_of
one = refl

after_one : sqrt_of binary32 (of_bits binary32 0x3f80_0001) ≡ of_bits binary32 0x3f80_0000
unfolding of_bits sqrt_of
after_one = refl

-- -0, and -1
minus_zero_lem : sqrt_of binary32 (of_bits binary32 0x8000_0000) ≡ of_bits binary32 0x8000_0000
unfolding of_bits sqrt_of
minus_zero_lem = refl

minus_one : sqrt_of binary32 (of_bits binary32 0xbf80_0000) ≡ nan
unfolding of_bits sqrt_of
minus_one = refl
