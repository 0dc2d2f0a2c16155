-- The steps of a split, as the contracts say them: counts, the parted list, the leading group first. Definitions only.
use Rattle.std.specs.Prelude.{ℕ, ◌+◌, ◌-◌, ◌*◌, ◌/◌, ◌≤◌, ◌<◌, Bool, true, false, not, cond, List, ◌++◌, ◌≡◌, length, take, drop, get_or, Float}
use Rattle.std.specs.Float.{binary32}
use Rattle.std.specs.Float.Ieee.{of_bits, lt}
use Rattle.base.specs.Lists.{one_if, sift}
use Rattle.math.specs.declared.vec3.Vec3.{Vec3}
use Rattle.math.specs.declared.axis.Axis.{Axis}
use Rattle.math.specs.declared.axis.Axis.TheVariants.{X, Y, Z}
use Rattle.math.specs.Vec3s.{◌⊕◌, ◌⊗◌}
use Rattle.math.specs.Transform.{half}
use Rattle.entries.specs.declared.boxes.BoxWords.{BoxWords}
use Rattle.split.specs.declared.groups.Counts.{Counts}
use Rattle.split.specs.Rule.{above, below, count_below, offset, nearest_axis, two_leads}
use Rattle.box_sort.specs.Sorted.{sort_boxes}

-- how many centres are above the average on x
abbrev pub count_above : (ℕ → BoxWords) → Vec3 → List ℕ → ℕ
count_above at avg ps = length (sift (above at avg X) ps)

-- how many centres are below the average, on each axis, and how many are above it on x
abbrev pub counts_of : (ℕ → BoxWords) → Vec3 → List ℕ → Counts
counts_of at avg ps = record { x = count_below at avg X ps; y = count_below at avg Y ps; z = count_below at avg Z ps; over = count_above at avg ps }

-- the counts with one place more
abbrev pub count_more : (ℕ → BoxWords) → Vec3 → Counts → ℕ → Counts
count_more at avg c p =
    record {
      x = c.x + one_if (below at avg X p);
      y = c.y + one_if (below at avg Y p);
      z = c.z + one_if (below at avg Z p);
      over = c.over + one_if (above at avg X p);
    }

-- Rule T5: the axis, by the counts of n items.
abbrev pub axis_by : ℕ → Counts → Axis
axis_by n c = nearest_axis (offset n c.x) (offset n c.y) (offset n c.z)

-- how many words the axis comes after x
abbrev pub step_of : Axis → ℕ
step_of X = 0
step_of Y = 1
step_of Z = 2

-- Rule T3 on the axis that comes `step` words after x, and whether the centre is above the cut there
abbrev pub centre_at : List ℕ → ℕ → ℕ → Float
centre_at ws step p = (of_bits binary32 (get_or ws (7 * p + 1 + step) 0) ⊕ of_bits binary32 (get_or ws (7 * p + 1 + step + 3) 0)) ⊗ half

unfoldable pub passes : List ℕ → ℕ → Float → ℕ → Bool
passes ws step cut p = lt cut (centre_at ws step p)

-- from a position on no place passes the test
pub record Nowhere (test : ℕ → Bool) (from : ℕ) (ps : List ℕ) : Type 0 where
  pub fails : (k : ℕ) → from ≤ k → k < length ps → test (get_or ps k 0) ≡ false

-- the first r places pass the test
pub record Leading (test : ℕ → Bool) (ps : List ℕ) (r : ℕ) : Type 0 where
  pub within : r ≤ length ps
  pub pass : (k : ℕ) → k < r → test (get_or ps k 0) ≡ true

-- Rule T5: what passes the test at the front of u, the rest at the front of v, order kept, and how many pass.
pub record Parted (test : ℕ → Bool) (ps u v : List ℕ) (r : ℕ) : Type 0 where
  pub passed : take r u ≡ sift test ps
  pub others : take (length ps - r) v ≡ sift (λ p. not (test p)) ps
  pub count : r ≡ length (sift test ps)

-- Rule T7: of the groups one and two, the group that leads first, and how many it has.
pub record LeaderFirst (at : ℕ → BoxWords) (one two w : List ℕ) (r : ℕ) : Type 0 where
  pub list : w ≡ cond (two_leads at one two) (two ++ one) (one ++ two)
  pub count : r ≡ cond (two_leads at one two) (length two) (length one)

-- the first k places of ps, none of them behind the first group's r, stand in w where they stood
pub record Same (k : ℕ) (ps w : List ℕ) (r : ℕ) : Type 0 where
  pub stand : take k w ≡ take k ps
  pub inside : k ≤ r

-- Rule T6: of places whose first group has k, as they are, or sorted and cut in the middle where it has all of them.
pub record Settled (at : ℕ → BoxWords) (k : ℕ) (ps w : List ℕ) (r : ℕ) : Type 0 where
  pub stands : k < length ps → (w ≡ ps) × (r ≡ k)
  pub halved : length ps ≤ k → LeaderFirst at (take (length ps / 2) (sort_boxes at ps)) (drop (length ps / 2) (sort_boxes at ps)) w r
