-- The two ends of a box on one axis. Definitions only.
use Rattle.std.specs.Prelude.{ℕ, List, T, Float}
use Rattle.std.specs.Float.{binary32}
use Rattle.std.specs.Float.Ieee.{of_bits, le}
use Rattle.std.specs.Float.Ieee.Scale.{finite}
use Rattle.base.specs.Lists.{Among}
use Rattle.float32.specs.Signs.{abs_of}
use Rattle.math.specs.declared.axis.Axis.{Axis}
use Rattle.math.specs.Axes.{word_on}
use Rattle.entries.specs.declared.boxes.BoxWords.{BoxWords}

abbrev pub low : Axis → BoxWords → Float
low a b = of_bits binary32 (word_on a b.min)

abbrev pub high : Axis → BoxWords → Float
high a b = of_bits binary32 (word_on a b.max)

-- Finite, with min at most max, on the axis.
pub record Proper (a : Axis) (b : BoxWords) : Type 0 where
  pub low_finite : T (finite (low a b))
  pub high_finite : T (finite (high a b))
  pub in_order : T (le (low a b) (high a b))

-- Neither end exceeds m in size.
pub record Bounded (m : Float) (a : Axis) (b : BoxWords) : Type 0 where
  pub low_size : T (le (abs_of (low a b)) m)
  pub high_size : T (le (abs_of (high a b)) m)

-- It holds of the box at each place of the list.
abbrev pub Each : (ℕ → BoxWords) → (BoxWords → Type 0) → List ℕ → Type 0
Each at P ps = (p : ℕ) → Among p ps → P (at p)
