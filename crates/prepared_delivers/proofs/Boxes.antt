-- The box of the prepared polygon k is that of the given one at the order's place k, and of the entry there: the record is the given one but for its links,
-- and a box has no links. It is read from the buffer that the prepared records were written to, whatever stands behind them.
use Prim.Native.Nat.{ℕ, ◌+◌, ◌*◌, ◌≤◌, ◌<◌}
use native.Mathlib.Omega.{arith}
use mathlib.Core.List.{List, ◌++◌}
use mathlib.Core.Path.{◌≡◌, refl, sym, ap, ◌∙◌}
use lib.ListN.{length, get_or, drop, get_or-append}
use Rattle.base.proofs.EveryLaws.{every_at}
use Rattle.base.specs.LittleEndian.{le_at}
use Rattle.base.specs.Lists.{over}
use Rattle.bvh.specs.Entry.{entries_in}
use Rattle.bvh_shape.proofs.Given.{positions, leaves, passes_are_one}
use Rattle.bvh_shape.specs.Sorting.{linked_in_order}
use Rattle.corners.proofs.CornerLaws.{length_over, length_in_turn, part_in_turn, length_linked}
use Rattle.corners.specs.Corners.{corners_of, linked_records, links_put}
use Rattle.edges.specs.Edges.{linked}
use Rattle.sides.specs.Links.{links_of}
use Rattle.entries.specs.declared.boxes.BoxWords.{BoxWords}
use Rattle.meshes.specs.declared.Bound.{Bound}
use Rattle.polygon.proofs.Sizes.{polygon_bytes_lem}
use Rattle.polygon.specs.Halves.{halves_at}
use Rattle.polygon.specs.Polygons.{polygon_of, polygon_at}
use Rattle.polygon.specs.declared.Polygon.{Polygon}
use Rattle.polygon_boxes.specs.Boxes.{bbox_of}
use Rattle.polygon_boxes.specs.declared.PolygonBox.{PolygonBox}
use Rattle.polygon_items.specs.Items.{item_words, item_at, items_of}
use Rattle.prepared.specs.Rebuilt.{polygons_of8}
use Rattle.rebuild.proofs.LinkTrace.{box_without_links}
use Rattle.rebuild.proofs.OrderLaws.{order_length, places_below}
use Rattle.reorder.proofs.ReadAgain.{reordered_polygon}
use Rattle.reorder.specs.Reordering.{moved_to, reordered_record, reordered_of}

-- ---- the box of an entry

seven : (x : PolygonBox) → length (item_words x) ≡ 7
unfolding item_words
seven x = refl

module _ (p : ℕ) (bytes ws : List ℕ) (q : ℕ) (h : q < p) where
  word : (j i : ℕ) → j < 7 → i ≡ 7 * q + j → get_or (items_of p bytes ws) i 0 ≡ get_or (item_at bytes ws q) j 0
  word j i b e = ap (λ (k : ℕ). get_or (items_of p bytes ws) k 0) e ∙ part_in_turn 7 (item_at bytes ws) p (λ k c. seven _) q j h b

  abbrev own : PolygonBox
  own = bbox_of (polygon_at bytes (16 * q)) ws

  pub entry_box : (entries_in p (items_of p bytes ws)).at q ≡ record { min = own.min; max = own.max }
  unfolding entries_in item_words
  entry_box = λ i.
      record {
        min =
            record {
              x = word 1 (7 * q + 1) (omega arith) refl i;
              y = word 2 (7 * q + 1 + 1) (omega arith) (omega arith) i;
              z = word 3 (7 * q + 1 + 2) (omega arith) (omega arith) i;
            };
        max =
            record {
              x = word 4 (7 * q + 1 + 3) (omega arith) (omega arith) i;
              y = word 5 (7 * q + 1 + 3 + 1) (omega arith) (omega arith) i;
              z = word 6 (7 * q + 1 + 3 + 2) (omega arith) (omega arith) i;
            };
      }

-- ---- a record that others stand behind

two_in_front : (xs ys : List ℕ) (i : ℕ) → i + 1 < length xs → le_at 2 (xs ++ ys) i ≡ le_at 2 xs i
unfolding le_at
two_in_front xs ys i h = rw (get_or-append xs ys 0 i (omega arith), get_or-append xs ys 0 (i + 1) h)

polygon_in_front : (xs ys : List ℕ) (k : ℕ) → k + 16 ≤ length xs → polygon_at (xs ++ ys) k ≡ polygon_at xs k
unfolding polygon_at halves_at
polygon_in_front xs ys k h =
    let two : (j : ℕ) → j < 15 → le_at 2 (xs ++ ys) (k + j) ≡ le_at 2 xs (k + j) = λ j b. two_in_front xs ys (k + j) (omega arith) in
    let e0 = two_in_front xs ys k (omega arith) in
    let e2 = two 2 (omega arith) in
    let e4 = two 4 (omega arith) in
    let e6 = two 6 (omega arith) in
    let e8 = two 8 (omega arith) in
    let e10 = two 10 (omega arith) in
    let e12 = two 12 (omega arith) in
    let e14 = two 14 (omega arith) in
    let same : halves_at (xs ++ ys) k ≡ halves_at xs k =
    λ i. record { at0 = e0 i; at2 = e2 i; at4 = e4 i; at6 = e6 i; at8 = e8 i; at10 = e10 i; at12 = e12 i; at14 = e14 i } in
    ap polygon_of same

-- ---- the box of a prepared polygon

module _ (p : ℕ) (order bytes : List ℕ) where
  length_reordered : length (reordered_of p order bytes) ≡ 16 * p
  length_reordered = length_in_turn 16 (reordered_record order bytes) p (λ j c. (polygon_bytes_lem (moved_to order bytes j)).size)

  record_box : (ws : List ℕ) → ((i : ℕ) → get_or bytes i 0 < 256) → (k : ℕ) → k < p
      → bbox_of (polygon_at (linked p (reordered_of p order bytes)) (16 * k)) ws ≡ bbox_of (polygon_at bytes (16 * get_or order k 0)) ws
  unfolding linked
  record_box ws each k h =
      let records = reordered_of p order bytes in
      box_without_links p (links_of (corners_of p records)) records (omega (arith, length_reordered)) ws k h
      ∙ ap (λ (u : Polygon). bbox_of u ws) (reordered_polygon p order bytes each k h)

  length_in_order : length (linked p (reordered_of p order bytes)) ≡ 16 * p
  unfolding linked links_put
  length_in_order =
      let records = reordered_of p order bytes in
      let links = links_of (corners_of p records) in
      length_over (linked_records p links records) records (omega (arith, length_reordered, length_linked p links records (omega (arith, length_reordered))))
      ∙ length_reordered

module _ (b : Bound) (p v : ℕ) (polygons vertices : List ℕ) (records : 16 * p ≤ length polygons) (each : (i : ℕ) → get_or polygons i 0 < 256) where
  abbrev at : List ℕ
  at = positions b p v polygons vertices

  abbrev order : List ℕ
  order = leaves b p v polygons vertices

  pub place_below : (k : ℕ) → k < p → get_or order k 0 < p
  place_below k h = every_at (λ x. x < p) order k (places_below p polygons at) (omega (arith, order_length p polygons at))

  abbrev boxed : PolygonBox → BoxWords
  boxed x = record { min = x.min; max = x.max }

  -- of the buffer that the prepared records were written to
  module _ (before written : List ℕ) (e : written ≡ over (polygons_of8 b p v polygons vertices) before) where
    pub same_box : (k : ℕ) → k < p → bbox_of (polygon_at written (16 * k)) at ≡ bbox_of (polygon_at polygons (16 * get_or order k 0)) at
    same_box k h =
        let front = linked_in_order p order polygons in
        ap (λ (l : List ℕ). bbox_of (polygon_at l (16 * k)) at) (e ∙ ap (λ (l : List ℕ). over l before) (passes_are_one b p v polygons vertices records))
        ∙ ap (λ (u : Polygon). bbox_of u at)
        (polygon_in_front front (drop (length front) before) (16 * k) (omega (arith, length_in_order p order polygons)))
        ∙ record_box p order polygons at each k h

    pub prepared_box : (k : ℕ) → k < p → boxed (bbox_of (polygon_at written (16 * k)) at) ≡ (entries_in p (items_of p polygons at)).at (get_or order k 0)
    prepared_box k h = ap boxed (same_box k h) ∙ sym (entry_box p polygons at (get_or order k 0) (place_below k h))
