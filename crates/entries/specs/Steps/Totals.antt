-- The fold of boxes by value, beside their sum. Definitions only.
use Rattle.std.specs.Prelude.{ℕ, Bool, ◌||◌, List, [], ◌∷◌}
use Rattle.std.specs.Float.Ieee.{is_nan}
use Rattle.math.specs.declared.vec3.Vec3.{Vec3}
use Rattle.math.specs.Stored.{values_of}
use Rattle.math.specs.Vec3s.{add_of, vmin3_of, vmax3_of}
use Rattle.entries.specs.declared.boxes.BoxWords.{BoxWords}
use Rattle.entries.specs.declared.boxes.Corners.{Corners}
use Rattle.entries.specs.declared.totals.Totals.{Totals}
use Rattle.entries.specs.Folding.{fold_box}
use Rattle.entries.specs.Average.{origin, sum_from}

-- a box by its floats
abbrev pub corners_of : BoxWords → Corners
corners_of b = record { low = values_of b.min; high = values_of b.max }

-- three points with each z apart
abbrev pub totals_by : Vec3 → Vec3 → Vec3 → Totals
totals_by l s h =
    record {
      low = record { x = l.x; y = l.y };
      sum = record { x = s.x; y = s.y };
      high = record { x = h.x; y = h.y };
      z = record { low = l.z; sum = s.z; high = h.z };
    }

abbrev pub low_of : Totals → Vec3
low_of t = record { x = t.low.x; y = t.low.y; z = t.z.low }

abbrev pub sum_of : Totals → Vec3
sum_of t = record { x = t.sum.x; y = t.sum.y; z = t.z.sum }

abbrev pub high_of : Totals → Vec3
high_of t = record { x = t.high.x; y = t.high.y; z = t.z.high }

-- the floats of a box, beside a sum
abbrev pub totals_of : BoxWords → Vec3 → Totals
totals_of b s = totals_by (values_of b.min) s (values_of b.max)

-- one box more: rule F3 by value, and min, then max, added
abbrev pub total_step : Totals → Corners → Totals
total_step t b =
    totals_by (vmin3_of (low_of t) b.low) (add_of (add_of (sum_of t) b.low) b.high) (vmax3_of (high_of t) b.high)

-- box after box
abbrev pub totals_from : (ℕ → BoxWords) → Totals → List ℕ → Totals
totals_from at t [] = t
totals_from at t (p ∷ ps) = totals_from at (total_step t (corners_of (at p))) ps

-- those of the rules: the fold of T1 by value, the sum of T4
abbrev pub totals_all : (ℕ → BoxWords) → List ℕ → Totals
totals_all at ps = totals_of (fold_box at ps) (sum_from at origin ps)

-- a NaN on some axis
unfoldable pub any_nan : Vec3 → Bool
any_nan v = is_nan v.x || (is_nan v.y || is_nan v.z)
