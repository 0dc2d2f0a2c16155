-- Worked examples of rounding, each by computing it.
use mathlib.Core.Path.{◌≡◌, refl}
use mathlib.Core.Bool.{true, false}
use Prim.Native.Nat.{◌-◌, ◌*◌, ◌^◌}
use lib.IntN.{pos}
use lib.Ieee.{inf, fin, binary32, round, add, div, of_bits}
use Rattle.float_laws.specs.RoundStandard.{too_large}

-- 1 / 10 is no number of the format
tenth : round binary32 false 1 10 ≡ of_bits binary32 0x3dcc_cccd
unfolding of_bits round
tenth = refl

-- 2 ^ 24 + 1 and 2 ^ 24 + 3 lie in the middle of two numbers, and go to the even one: down to 2 ^ 24, and up to 2 ^ 24 + 4
tie_down : round binary32 false 0x100_0001 1 ≡ of_bits binary32 0x4b80_0000
unfolding of_bits round
tie_down = refl

tie_up : round binary32 false 0x100_0003 1 ≡ of_bits binary32 0x4b80_0002
unfolding of_bits round
tie_up = refl

-- half of the least number, 2 ^ -149, is as near to zero, and keeps its sign; a little more is not
half_of_least : round binary32 true 1 (2 ^ 150) ≡ fin true 0 (pos 0)
unfolding round
half_of_least = refl

more_than_half : round binary32 false 1000001 (2 ^ 150 * 1000000) ≡ of_bits binary32 1
unfolding of_bits round
more_than_half = refl

-- the bound, and a little less: the largest number
at_bound : round binary32 true (too_large binary32) (2 ^ 24) ≡ inf true
unfolding round
at_bound = refl

below_bound : round binary32 false (1000000 * too_large binary32 - 1) (1000000 * 2 ^ 24) ≡ of_bits binary32 0x7f7f_ffff
unfolding of_bits round
below_bound = refl

-- 1 + -1, and -0 + -0
opposite_sum : add binary32 (of_bits binary32 0x3f80_0000) (of_bits binary32 0xbf80_0000) ≡ fin false 0 (pos 0)
unfolding of_bits add
opposite_sum = refl

minus_zeros : add binary32 (fin true 0 (pos 0)) (fin true 0 (pos 0)) ≡ fin true 0 (pos 0)
unfolding add
minus_zeros = refl

-- -1 / 0
by_zero : div binary32 (of_bits binary32 0xbf80_0000) (fin false 0 (pos 0)) ≡ inf true
unfolding of_bits div
by_zero = refl
