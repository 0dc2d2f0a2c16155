-- Point 3 of the request, as one statement about a build and the walk over its records. Definitions only.
use Rattle.std.specs.Prelude.{◌≡◌, ℕ, ◌+◌, ◌<◌, ◌≤◌, true, cond, T, ◌⊎◌, List, length, nat_lt, Result, Ok, Err}
use mathlib.Core.List.{Memᴰ}
use Rattle.std.specs.Prelude.{Float}
use Rattle.std.specs.Float.Ieee.{le, eq}
use Rattle.base.specs.Lists.{occurrences}
use Rattle.math.specs.declared.axis.Axis.{Axis}
use Rattle.math.specs.Stored.{values_of}
use Rattle.math.specs.declared.aabb.Aabb.{Aabb}
use Rattle.records.specs.Axis.{extent, largest, smallest, nought}
use Rattle.entries.specs.Ends.{low, high, Proper, Bounded, Each}
use Rattle.entries.specs.Folding.{fold_box}
use Rattle.entries.specs.declared.boxes.BoxWords.{BoxWords}
use Rattle.bvh.specs.declared.slices.BuildRefusal.{BuildRefusal}
use Rattle.bvh.specs.declared.slices.BuiltTree.{BuiltTree}
use Rattle.bvh.specs.Build.{Build, Entries, refusal_number, answer_of}
use Rattle.bvh.specs.Entry.{Outputs, Lent, lengths_of, Answered}
use Rattle.walk_steps.specs.Boxes.{query_of, meets_box}
use Rattle.walk.specs.Walks.{Outcome, walk_of, number_of, Promise}
use Rattle.tree.specs.declared.pair.Found.{Found}
use Rattle.tree.specs.WellFormed.{count_for, items_at, FromLeaf, WellFormed}

-- ---- what the walk is given

-- Rule P3 (01, Walk: over a build the walk is given its node and tree bytes unchanged, its cen and inverse, its node and tree counts without padding):
-- what it comes to, over the build that answered b and left these outputs, with an output of so many places.
unfoldable pub outcome_of : Entries → ℕ → Aabb → BuiltTree → Outputs → ℕ → Outcome
outcome_of e th query b after room =
    walk_of query b.scale.cen b.scale.inverse (record { nodes = b.nodes; trees = b.trees; items = count_for th e.number b.present })
    after.nodes after.trees room

-- ---- the premises

-- the half extent q of a box on an axis (rule T2)
abbrev pub extent_on : Axis → BoxWords → Float
extent_on a b = extent (low a b) (high a b)

-- Point 3: all present boxes are finite with min at most max, no coordinate exceeds 2^100 in size, and each axis's half extent q is 0 or at least 2^-100.
pub record Ordinary (e : Entries) : Type 0 where
  pub proper : (a : Axis) → Each e.at (Proper a) e.places
  pub bounded : (a : Axis) → Each e.at (Bounded largest a) e.places
  pub extents : (a : Axis) → T (eq (extent_on a (fold_box e.at e.places)) nought) ⊎ T (le smallest (extent_on a (fold_box e.at e.places)))

-- ---- the promises

-- a stored box as floats
abbrev pub box_values : BoxWords → Aabb
box_values b = record { min = values_of b.min; max = values_of b.max }

-- Rule P4 (request, point 3): what a walk over these records comes to, its output having `room` places.
pub record Delivered (e : Entries) (th : ℕ) (query : Aabb) (b : BuiltTree) (after : Outputs) (room : ℕ) (o : Outcome) : Type 0 where
  -- it is refused with 2 exactly where the output is shorter than the item count, and with nothing else
  pub refused_exactly : o.number ≡ cond (nat_lt room (count_for th e.number b.present)) 2 0
  -- otherwise it hands out every present item whose box meets the query as floats. A query with a NaN meets none, so nothing is asked of the query.
  pub every_item_that_meets : Ordinary e → o.number ≡ 0 → (p : ℕ) → Memᴰ p e.places → meets_box (box_values (e.at p)) query ≡ true
      → occurrences p (items_at th after o.given) ≡ 1
  -- no item twice, and only present ones
  pub none_twice : (p : ℕ) → occurrences p (items_at th after o.given) ≤ 1
  pub only_present : (p : ℕ) → occurrences p (items_at th after o.given) ≤ occurrences p e.places
  -- only positions below the item count
  pub positions_below : (i : ℕ) → Memᴰ i o.given → i < count_for th e.number b.present
  -- none from a leaf record that misses the query
  pub from_leaves_that_meet : (i : ℕ) → Memᴰ i o.given → FromLeaf (query_of query b.scale.cen b.scale.inverse) b.nodes after i
  -- as many handed out as it says
  pub count_is : o.counts.handed ≡ length o.given
  -- its count of records read is at most nodes plus trees
  pub reads_at_most : o.counts.reads ≤ b.nodes + b.trees

-- ---- the statement

-- the build that an answer tells of
abbrev pub build_in : Result Found BuildRefusal → Build
build_in (Err why) = Err why
build_in (Ok f) = Ok f.tree

-- 01's number of each answer, 0 where nothing is refused: the build's refusal, or the walk's number.
abbrev pub found_number : Result Found BuildRefusal → ℕ
found_number (Err why) = refusal_number why
found_number (Ok f) = number_of f.walk

-- Rule P5: the number of a pair by its build. A walk over what was built is refused where the output, of so many places, is shorter than the item count, and never else.
abbrev pub pair_number : ℕ → ℕ → ℕ → Build → ℕ
pair_number th entries room (Err why) = refusal_number why
pair_number th entries room (Ok b) = cond (nat_lt room (count_for th entries b.present)) 2 0

-- Rule P5: a refused build is not walked, and the output keeps what it had; any other is walked, which comes to `outcome_of`.
abbrev pub WalkAfter : Entries → ℕ → Aabb → Outputs → List ℕ → List ℕ → Result Found BuildRefusal → Type 0
WalkAfter e th query after out out' (Err why) = out' ≡ out
WalkAfter e th query after out out' (Ok f) = Promise (outcome_of e th query f.tree after (length out)) out out' f.walk

-- Rule P5 (request, point 3), whole, of a build and the walk over its records: 01's number, by what was lent alone; what each of the two is;
-- and, if the build is not refused, that its records are well formed whatever the boxes, and what the walk delivers.
pub record Paired (e : Entries) (th : ℕ) (query : Aabb) (given : Lent) (before after : Outputs) (out out' : List ℕ) (r : Result Found BuildRefusal) : Type 0 where
  pub number_is : found_number r ≡ pair_number th e.number (length out) (answer_of e th (lengths_of before given))
  pub build_is : Answered e th (lengths_of before given) (build_in r) before after
  pub walk_is : WalkAfter e th query after out out' r
  pub well_formed : (b : BuiltTree) → build_in r ≡ Ok b → WellFormed e th b after
  pub delivers : (b : BuiltTree) → build_in r ≡ Ok b → Delivered e th query b after (length out) (outcome_of e th query b after (length out))
