-- What comparing every box with the query gives. Definitions only.
use Rattle.std.specs.Prelude.{◌≡◌, ℕ, zero, suc, ◌+◌, ◌*◌, Bool, cond, not, ◌&&◌, ◌||◌, List, ◌==◌, nat_le, slice_index, slice_set}
use Rattle.base.specs.Lists.{one_if}
use Rattle.math.specs.declared.aabb.Aabb.{Aabb}
use Rattle.entries.specs.Boxes.{box_at}
use Rattle.bvh.specs.Items.{is_marked}
use Rattle.rows.specs.Positions.{item_at}
use Rattle.walk_steps.specs.Boxes.{meets_box}
use Rattle.tree.specs.Pair.{box_values}
use Rattle.pairs.specs.declared.judge.Met.{Met}

-- whether the entry at a place is present
abbrev pub present_at : List ℕ → ℕ → Bool
present_at words p = is_marked (slice_index words (7 * p))

-- whether it is present and its box meets the query as floats
unfoldable pub meets_at : List ℕ → Aabb → ℕ → Bool
meets_at words query p = present_at words p && meets_box (box_values (box_at words p)) query

-- whether the item at a place has its mark
abbrev pub seen_at : List ℕ → ℕ → Bool
seen_at seen p = not (slice_index seen p == 0)

-- the place meets and has no mark
abbrev pub missed_at : List ℕ → Aabb → List ℕ → ℕ → Bool
missed_at words query seen p = meets_at words query p && not (seen_at seen p)

-- the place has a mark and is not present
abbrev pub stray_at : List ℕ → List ℕ → ℕ → Bool
stray_at words seen p = seen_at seen p && not (present_at words p)

-- how many of the first n places a test holds of
abbrev pub count_of : (ℕ → Bool) → ℕ → ℕ
count_of test zero = 0
count_of test (suc n) = count_of test n + one_if (test n)

-- the three counts over the first n places
pub record Compared (words : List ℕ) (query : Aabb) (seen : List ℕ) (n : ℕ) (m : Met) : Type 0 where
  pub meeting_is : m.meeting ≡ count_of (meets_at words query) n
  pub missed_is : m.missed ≡ count_of (missed_at words query seen) n
  pub stray_is : m.stray ≡ count_of (stray_at words seen) n

-- the item at a position that was handed out; a position that is in no order stands for no item
abbrev pub item_handed : ℕ → List ℕ → ℕ → ℕ
item_handed th order i = cond (nat_le 700 i) i (item_at th order i)

-- whether the item has its mark, or is none
abbrev pub had_mark : List ℕ → ℕ → Bool
had_mark seen p = nat_le 700 p || seen_at seen p

-- the marks with the item's
abbrev pub with_mark : List ℕ → ℕ → List ℕ
with_mark seen p = cond (nat_le 700 p) seen (slice_set seen p 1)

-- the marks with those of the items of the first n positions
abbrev pub marks : ℕ → List ℕ → List ℕ → List ℕ → ℕ → List ℕ
marks th order out seen zero = seen
marks th order out seen (suc n) = with_mark (marks th order out seen n) (item_handed th order (slice_index out n))

-- whether the item of position n had its mark before
abbrev pub twice_at : ℕ → List ℕ → List ℕ → List ℕ → ℕ → Bool
twice_at th order out seen n = had_mark (marks th order out seen n) (item_handed th order (slice_index out n))
