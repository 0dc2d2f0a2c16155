-- A node's record meets the quantised query where an item below it meets the query as floats: what holds on each axis (bvh's MeetLaws), put together.
use Rattle.std.specs.Prelude.{◌≡◌, ℕ, ◌<◌, Bool, true, false, ◌&&◌, T, List, [], ◌∷◌, length}
use native.Mathlib.Omega.{arith}
use mathlib.Core.Bool.{and-eq-true_iff}
use mathlib.Core.Path.{refl, sym, ap₂, subst}
use lib.Ieee.{le}
use lib.Signed.{le_z}
use Rattle.base.specs.Lists.{Among}
use Rattle.math.specs.declared.axis.Axis.{Axis}
use Rattle.math.specs.declared.axis.Axis.TheVariants.{X, Y, Z}
use Rattle.math.specs.Axes.{coordinate}
use Rattle.math.specs.declared.aabb.Aabb.{Aabb}
use Rattle.records.specs.Axis.{unit_on, Measured}
use Rattle.records.specs.declared.BoundVertex.{BoundVertex}
use Rattle.records.specs.Scale.{scale_of_box}
use Rattle.entries.specs.Ends.{low, high}
use Rattle.entries.specs.Folding.{fold_box}
use Rattle.entries.specs.declared.boxes.BoxWords.{BoxWords}
use Rattle.bvh.proofs.MeetLaws.{all_measured, part_below, part_above}
use Rattle.bvh.specs.Build.{Entries}
use Rattle.walk_steps.specs.Boxes.{overlap, query_of, meets_box, meets}
use Rattle.walk_steps.specs.declared.boxes.Query.{Query}
use Rattle.tree.specs.Pair.{Ordinary, box_values}
use Rattle.tree.specs.Visit.{hit_in}

is_true : (b : Bool) → T b → b ≡ true
is_true true h = refl
is_true false h = absurd h

-- the tests of two, and of three, that hold
overlaps : {A : Type 0} (at_most : A → A → Bool) (min max min' max' : A) → T (at_most min max') → T (at_most min' max)
    → overlap at_most min max min' max' ≡ true
overlaps at_most min max min' max' h k = rw (is_true (at_most min max') h, is_true (at_most min' max) k)

-- boxes that meet on each axis
meets_by_axis : (q : Query) (min max : BoundVertex)
    → ((a : Axis) → T (le_z (unit_on a q.min) (unit_on a max)) × T (le_z (unit_on a min) (unit_on a q.max))) → meets q min max ≡ true
unfolding meets
meets_by_axis q min max h =
    let on : (a : Axis) → overlap le_z (unit_on a q.min) (unit_on a q.max) (unit_on a min) (unit_on a max) ≡ true =
    λ a. overlaps le_z (unit_on a q.min) (unit_on a q.max) (unit_on a min) (unit_on a max) (h a).0 (h a).1 in
    ap₂ ◌&&◌ (on X) (ap₂ ◌&&◌ (on Y) (on Z))

-- an item that meets the query does so on each axis
abbrev on_axis : BoxWords → Aabb → Axis → Bool
on_axis b query a = overlap le (low a b) (high a b) (coordinate a query.min) (coordinate a query.max)

meets_on : (b : BoxWords) (query : Aabb) → meets_box (box_values b) query ≡ true → (a : Axis) → on_axis b query a ≡ true
unfolding meets_box
meets_on b query e a =
    let first = (and-eq-true_iff (on_axis b query X) (on_axis b query Y && on_axis b query Z)).0 e in
    let others = (and-eq-true_iff (on_axis b query Y) (on_axis b query Z)).0 first.1 in
    elim a as (λ a. on_axis b query a ≡ true) [
      | X ↦ first.0
      | Y ↦ others.0
      | Z ↦ others.1
    ]

holds : (b : Bool) → b ≡ true → T b
holds b e = subst T (sym e) tt

item_on_axis : (b : BoxWords) (query : Aabb) → meets_box (box_values b) query ≡ true → (a : Axis)
    → T (le (low a b) (coordinate a query.max)) × T (le (coordinate a query.min) (high a b))
item_on_axis b query e a =
    let h = (and-eq-true_iff (le (low a b) (coordinate a query.max)) (le (coordinate a query.min) (high a b))).0 (meets_on b query e a) in
    (holds (le (low a b) (coordinate a query.max)) h.0, holds (le (coordinate a query.min) (high a b)) h.1)

some_held : (p : ℕ) (ps : List ℕ) → Among p ps → 0 < length ps
some_held p [] h = absurd (omega arith)
some_held p (q ∷ ps) h = omega arith

module _ (e : Entries) (ordinary : Ordinary e) (query : Aabb) (p : ℕ) (meets-item : meets_box (box_values (e.at p)) query ≡ true) where
  abbrev all : BoxWords
  all = fold_box e.at e.places

  pub part_hit : (ps : List ℕ) → ((x : ℕ) → Among x ps → Among x e.places) → Among p ps
      → hit_in query (scale_of_box all.min all.max) (fold_box e.at ps) ≡ true
  unfolding query_of
  part_hit ps sub held =
      let some = some_held p e.places (sub p held) in
      let measured : (a : Axis) → Measured (low a all) (high a all) =
      λ a. all_measured e.at a e.places (ordinary.proper a) some (ordinary.bounded a) (ordinary.extents a) in
      let on-axis = item_on_axis (e.at p) query meets-item in
      meets_by_axis _ _ _
      (λ a. (
        part_above e.at a e.places (ordinary.proper a) (measured a) ps sub p query.min (some_held p ps held) held (on-axis a).1,
        part_below e.at a e.places (ordinary.proper a) (measured a) ps sub p query.max (some_held p ps held) held (on-axis a).0,
      ))
