-- The rule by which a node's items are split. Definitions only.
use Rattle.std.specs.Prelude.{ℕ, ◌+◌, ◌-◌, ◌*◌, ◌/◌, ◌<◌, Bool, not, cond, ◌&&◌, ◌||◌, List, ◌++◌, ◌≡◌, leb, ltb, eqb, length, take, drop}
use Rattle.std.specs.Float.Ieee.{lt}
use Rattle.base.specs.Lists.{sift}
use Rattle.math.specs.declared.vec3.Vec3.{Vec3}
use Rattle.math.specs.declared.axis.Axis.{Axis}
use Rattle.math.specs.declared.axis.Axis.TheVariants.{X, Y, Z}
use Rattle.math.specs.Axes.{coordinate}
use Rattle.entries.specs.declared.boxes.BoxWords.{BoxWords}
use Rattle.entries.specs.Average.{centre_of, average_of}
use Rattle.box_sort.specs.Sorted.{sort_boxes}

-- a centre below the average, and one above it; a NaN is neither
unfoldable pub below : (ℕ → BoxWords) → Vec3 → Axis → ℕ → Bool
below at avg a p = lt (coordinate a (centre_of (at p))) (coordinate a avg)

unfoldable pub above : (ℕ → BoxWords) → Vec3 → Axis → ℕ → Bool
above at avg a p = lt (coordinate a avg) (coordinate a (centre_of (at p)))

-- how many centres are below the average
unfoldable pub count_below : (ℕ → BoxWords) → Vec3 → Axis → List ℕ → ℕ
unfolding below
count_below at avg a ps = length (sift (below at avg a) ps)

-- twice the distance of the count c from n / 2
abbrev pub offset : ℕ → ℕ → ℕ
offset n c = (n - 2 * c) + (2 * c - n)

-- Rule T5 (01, Tree build; bvh.rs, axis): the axis whose count is nearest n / 2, x before y before z.
abbrev pub nearest_axis : ℕ → ℕ → ℕ → Axis
nearest_axis dx dy dz = cond (leb dx dy && leb dx dz) X (cond (leb dy dz) Y Z)

unfoldable pub axis_of : (ℕ → BoxWords) → Vec3 → List ℕ → Axis
unfolding count_below
axis_of at avg ps =
    let n = length ps in
    nearest_axis (offset n (count_below at avg X ps)) (offset n (count_below at avg Y ps)) (offset n (count_below at avg Z ps))

-- the test that parts the items: above the average on the chosen axis
unfoldable pub chosen : (ℕ → BoxWords) → List ℕ → ℕ → Bool
unfolding average_of axis_of above
chosen at ps = above at (average_of at ps) (axis_of at (average_of at ps) ps)

-- Rule T5: above goes to one, the rest to two, order kept.
abbrev pub one : (ℕ → BoxWords) → List ℕ → List ℕ
one at ps = sift (chosen at ps) ps

abbrev pub two : (ℕ → BoxWords) → List ℕ → List ℕ
two at ps = sift (λ p. not (chosen at ps p)) ps

-- either is empty
abbrev pub stuck : (ℕ → BoxWords) → List ℕ → Bool
stuck at ps = eqb (length (one at ps)) 0 || eqb (length (one at ps)) (length ps)

-- Rule T6: where a group is empty, one followed by two is sorted and cut at n / 2 rounded down.
unfoldable pub group_one : (ℕ → BoxWords) → List ℕ → List ℕ
unfolding chosen
group_one at ps = cond (stuck at ps) (take (length ps / 2) (sort_boxes at (one at ps ++ two at ps))) (one at ps)

unfoldable pub group_two : (ℕ → BoxWords) → List ℕ → List ℕ
unfolding chosen
group_two at ps = cond (stuck at ps) (drop (length ps / 2) (sort_boxes at (one at ps ++ two at ps))) (two at ps)

-- Rule T7 (01, Tree build; bvh.rs, children): of the groups one and two of places with the boxes `at`, two leads where it has more items.
unfoldable pub two_leads : (ℕ → BoxWords) → List ℕ → List ℕ → Bool
two_leads at one two = ltb (length one) (length two)

-- Rule T7: the group that leads is the first child.
unfoldable pub first_group_of : (ℕ → BoxWords) → List ℕ → List ℕ
unfolding group_one group_two
first_group_of at ps = cond (two_leads at (group_one at ps) (group_two at ps)) (group_two at ps) (group_one at ps)

unfoldable pub second_of : (ℕ → BoxWords) → List ℕ → List ℕ
unfolding group_one group_two
second_of at ps = cond (two_leads at (group_one at ps) (group_two at ps)) (group_one at ps) (group_two at ps)

-- what a split leaves in place of the places ps: the first group, then the second, and how many the first has
pub record Divided (at : ℕ → BoxWords) (ps w : List ℕ) (r : ℕ) : Type 0 where
  pub list : w ≡ first_group_of at ps ++ second_of at ps
  pub count : r ≡ length (first_group_of at ps)
  pub some : 0 < r
  pub rest : r < length ps
