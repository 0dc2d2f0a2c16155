-- A node that holds an item that meets the query meets the quantised query, on one axis: the box of all items keeps the pair's premises (split's
-- FoldLaws), a node's box lies in it, the item's box in the node's, and node and query values are in the order of the floats (records' AxisLaws).
use Rattle.std.specs.Prelude.{ℕ, ◌<◌, T, ◌⊎◌, List, length}
use lib.Signed.{le_z}
use lib.Ieee.{le, eq}
use Rattle.base.specs.Lists.{Among}
use Rattle.float32.proofs.OrderLaws.{le_trans}
use Rattle.math.specs.declared.axis.Axis.{Axis}
use Rattle.math.specs.Axes.{coordinate}
use Rattle.math.specs.declared.vec3.Vec3.{Vec3}
use Rattle.entries.specs.declared.boxes.BoxWords.{BoxWords}
use Rattle.entries.specs.Ends.{low, high, Proper, Bounded, Each}
use Rattle.entries.specs.Folding.{fold_box}
use Rattle.entries.proofs.FoldLaws.{fold_below_each, fold_above_each, fold_proper, fold_bounded, fold_contains}
use Rattle.records.specs.Axis.{extent, largest, smallest, nought, Measured}
use Rattle.records.proofs.AxisLaws.{built, asked, Inside, built_below, built_above}

module _ (at : ℕ → BoxWords) (a : Axis) (ps : List ℕ) (proper : Each at (Proper a) ps) where
  -- the box of all items
  abbrev all : BoxWords
  all = fold_box at ps

  pub all_measured : 0 < length ps → Each at (Bounded largest a) ps
      → T (eq (extent (low a all) (high a all)) nought) ⊎ T (le smallest (extent (low a all) (high a all))) → Measured (low a all) (high a all)
  all_measured n bounded q =
      let p = fold_proper at a ps proper n in
      let b = fold_bounded at a ps proper largest bounded n in
      record {
        low_finite = p.low_finite;
        high_finite = p.high_finite;
        in_order = p.in_order;
        low_size = b.low_size;
        high_size = b.high_size;
        extent_size = q;
      }

  module _ (m : Measured (low a all) (high a all)) (qs : List ℕ) (sub : (p : ℕ) → Among p qs → Among p ps) where
    -- a node's box
    abbrev part : BoxWords
    part = fold_box at qs

    part_proper : 0 < length qs → Proper a part
    part_proper n = fold_proper at a qs (λ p i. proper p (sub p i)) n

    -- its corners lie in the box of all items
    pub min_inside : 0 < length qs → Inside a all.min all.max part.min
    min_inside n =
        let c = fold_contains at a ps proper qs sub in
        (c.0, le_trans (low a part) (high a part) (high a all) (part_proper n).in_order c.1)

    pub max_inside : 0 < length qs → Inside a all.min all.max part.max
    max_inside n =
        let c = fold_contains at a ps proper qs sub in
        (le_trans (low a all) (low a part) (high a part) c.0 (part_proper n).in_order, c.1)

    pub part_below : (p : ℕ) (w : Vec3) → 0 < length qs → Among p qs → T (le (low a (at p)) (coordinate a w))
        → T (le_z (built a all.min all.max part.min) (asked a all.min all.max w))
    part_below p w n i h =
        built_below a all.min all.max m part.min w (min_inside n)
        (le_trans (low a part) (low a (at p)) (coordinate a w) (fold_below_each at a qs (λ q j. proper q (sub q j)) p i) h)

    pub part_above : (p : ℕ) (w : Vec3) → 0 < length qs → Among p qs → T (le (coordinate a w) (high a (at p)))
        → T (le_z (asked a all.min all.max w) (built a all.min all.max part.max))
    part_above p w n i h =
        built_above a all.min all.max m part.max w (max_inside n)
        (le_trans (coordinate a w) (high a (at p)) (high a part) h (fold_above_each at a qs (λ q j. proper q (sub q j)) p i))
