-- The order of the leaves of the tree over some polygons has each polygon's place once: every entry is present, and a tree's leaves hold the
-- present ones in another order (growth GrowLaws).
use Rattle.std.specs.Prelude.{◌≡◌, ℕ, zero, suc, ◌+◌, ◌*◌, ◌<◌, ◌≤◌, List, ◌∷◌, length, get_or, take, drop}
use native.Mathlib.Nat.{add-zero}
use native.Mathlib.Omega.{arith}
use mathlib.Core.Path.{refl, sym, ap, subst, ◌∙◌}
use lib.Seq.{take_at}
use Rattle.base.proofs.NumberLaws.{length_up}
use Rattle.base.specs.Lists.{occurrences, Permutes, up_from, Below, over}
use Rattle.bvh.specs.Build.{Entries, tree_of, order_written}
use Rattle.bvh.specs.Entry.{entries_in}
use Rattle.bvh.specs.Items.{marked}
use Rattle.corners.proofs.CornerLaws.{length_over, length_in_turn, part_in_turn}
use Rattle.growth.proofs.GrowLaws.{leaf_order_permutes, leaf_order_length}
use Rattle.growth.proofs.Lawful.{lawful}
use Rattle.growth.specs.Grow.{builder}
use Rattle.math.specs.declared.mat4.Mat4.{Mat4}
use Rattle.math.specs.declared.vec3.Vec3.{Vec3}
use Rattle.points.proofs.PointLaws.{length_points}
use Rattle.points.specs.Points.{pos_of, positions_of}
use Rattle.polygon_boxes.specs.declared.PolygonBox.{PolygonBox}
use Rattle.polygon_items.specs.Items.{item_words, item_at, items_of}
use Rattle.reorder.proofs.LookupLaws.{order_below}
use Rattle.reorder.specs.Steps.Lent.{Numbering}
use Rattle.rebuild.specs.Rebuilding.{leaf_limit}

-- ---- where the vertices stand

length_positions : (transform : Mat4) (center : Vec3) (vertices : List ℕ) (v : ℕ) → length (positions_of transform center vertices v) ≡ 3 * v
unfolding positions_of
length_positions transform center vertices v = length_points (pos_of transform center vertices) v

pub positions_taken : (transform : Mat4) (center : Vec3) (vertices : List ℕ) (v : ℕ) (before after : List ℕ)
    → after ≡ over (positions_of transform center vertices v) before → take (3 * v) after ≡ positions_of transform center vertices v
positions_taken transform center vertices v before after e =
    let ps = positions_of transform center vertices v in
    ap (take (3 * v)) e ∙ take_at ps (drop (length ps) before) (3 * v) (length_positions transform center vertices v)

-- ---- every entry is present

seven : (b : PolygonBox) → length (item_words b) ≡ 7
unfolding item_words
seven b = refl

marked_one : (b : PolygonBox) → get_or (item_words b) 0 0 ≡ 1
unfolding item_words
marked_one b = refl

all_marked : (at n : ℕ) (ws : List ℕ) → ((q : ℕ) → at ≤ q → q < at + n → get_or ws (7 * q) 0 ≡ 1) → marked at n ws ≡ up_from at n
all_marked at zero ws each = refl
all_marked at (suc n) ws each =
    rw (each at (omega arith) (omega arith)) (ap (λ (l : List ℕ). at ∷ l) (all_marked (at + 1) n ws (λ q low high. each q (omega arith) (omega arith))))

module _ (p : ℕ) (bytes ws : List ℕ) where
  pub length_items : length (items_of p bytes ws) ≡ 7 * p
  length_items = length_in_turn 7 (item_at bytes ws) p (λ q h. seven _)

  mark_at : (q : ℕ) → q < p → get_or (items_of p bytes ws) (7 * q) 0 ≡ 1
  mark_at q h =
      ap (λ (k : ℕ). get_or (items_of p bytes ws) k 0) (sym (add-zero (7 * q)))
      ∙ part_in_turn 7 (item_at bytes ws) p (λ k b. seven _) q 0 h (omega arith)
      ∙ marked_one _

  abbrev entries : Entries
  entries = entries_in p (items_of p bytes ws)

  places_are : entries.places ≡ up_from 0 p
  unfolding entries_in
  places_are = all_marked 0 p (items_of p bytes ws) (λ q low high. mark_at q (omega arith))

  -- ---- the order of the leaves

  pub order_permutes : Permutes (order_written entries leaf_limit) (up_from 0 p)
  unfolding order_written tree_of
  order_permutes q =
      leaf_order_permutes (builder entries.at) (lawful entries.at) leaf_limit (omega arith) entries.places q
      ∙ ap (λ (l : List ℕ). occurrences q l) places_are

  pub order_length : length (order_written entries leaf_limit) ≡ p
  unfolding order_written tree_of
  order_length =
      leaf_order_length (builder entries.at) (lawful entries.at) leaf_limit (omega arith) entries.places
      ∙ ap length places_are
      ∙ length_up 0 p

  pub places_below : Below p (order_written entries leaf_limit)
  places_below = order_below p (order_written entries leaf_limit) order_length order_permutes

  -- ---- once it is written

  module _ (before after : List ℕ) (room : p ≤ length before) (e : after ≡ over (order_written entries leaf_limit) before) where
    pub order_taken : take p after ≡ order_written entries leaf_limit
    order_taken =
        let order = order_written entries leaf_limit in
        ap (take p) e ∙ take_at order (drop (length order) before) p order_length

    pub numbered : p ≤ 32767 → Numbering p after
    numbered few =
        let order = order_written entries leaf_limit in
        record {
          few = few;
          long = omega (arith, ap length e, length_over order before (omega (arith, order_length)));
          each_once = subst (λ (l : List ℕ). Permutes l (up_from 0 p)) (sym order_taken) order_permutes;
        }
