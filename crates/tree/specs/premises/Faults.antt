-- Rule P4: what breaks the premises of point 3 in one box, and in the box of all, by number. Definitions only.
-- 1 to 6: that value (min x, y, z, max x, y, z) is not finite, or above 2^100 in size; 7 to 9: min is above max on x, y, z;
-- 10 to 12: the half extent q on x, y, z is neither 0 nor at least 2^-100; 0: nothing.
use Rattle.std.specs.Prelude.{ℕ, ◌+◌, Bool, cond, ◌||◌, from_bits}
use Rattle.std.specs.Prelude.{Float}
use Rattle.std.specs.Float.{binary32}
use Rattle.std.specs.Float.Ieee.{le, eq}
use Rattle.float32.specs.Signs.{abs_of}
use Rattle.math.specs.declared.axis.Axis.TheVariants.{X, Y, Z}
use Rattle.math.specs.declared.words3.Words3.{Words3}
use Rattle.records.specs.Axis.{largest, smallest, nought}
use Rattle.entries.specs.Ends.{low, high}
use Rattle.entries.specs.declared.boxes.BoxWords.{BoxWords}
use Rattle.tree.specs.Pair.{extent_on}

-- at most 2^100 in size; a NaN and an infinity are not
unfoldable pub sized : Float → Bool
sized v = le (abs_of v) largest

-- a half extent that is 0 or at least 2^-100
unfoldable pub sound : Float → Bool
sound q = eq q nought || le smallest q

-- the number of the first axis whose test fails, counted from n, else the rest
unfoldable pub failing : ℕ → Bool → Bool → Bool → ℕ → ℕ
failing n x y z rest = cond x (cond y (cond z rest (n + 2)) (n + 1)) n

unfoldable pub size_fault : ℕ → Words3 → ℕ → ℕ
size_fault n w rest = failing n (sized (from_bits binary32 w.x)) (sized (from_bits binary32 w.y)) (sized (from_bits binary32 w.z)) rest

unfoldable pub order_fault : BoxWords → ℕ
order_fault b = failing 7 (le (low X b) (high X b)) (le (low Y b) (high Y b)) (le (low Z b) (high Z b)) 0

unfoldable pub box_fault : BoxWords → ℕ
box_fault b = size_fault 1 b.min (size_fault 4 b.max (order_fault b))

unfoldable pub extent_fault : BoxWords → ℕ
extent_fault b = failing 10 (sound (extent_on X b)) (sound (extent_on Y b)) (sound (extent_on Z b)) 0
