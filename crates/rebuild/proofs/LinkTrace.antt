-- The links that records came with leave no trace: neither in the boxes, nor in the records once links are made anew. So the first pass over the
-- given order and the renumbering are without effect on what the second pass leaves. Record by record (Unlinked).
use Rattle.std.specs.Prelude.{◌≡◌, ℕ, zero, suc, ◌+◌, ◌*◌, ◌%◌, ◌<◌, ◌≤◌, Bool, true, false, cond, ◌&&◌, eqb, leb, List, [], ◌++◌, length, get_or, take, drop}
use native.Mathlib.Nat.{add-zero}
use native.Mathlib.Omega.{arith}
use mathlib.Core.List.{append-nil}
use mathlib.Core.Path.{refl, sym, ap, ap₂, subst, ◌∙◌}
use borrow.Author.Tests.{eqb-true, le-leb}
use lib.ListN.{drop_of_length-le, get_or-append}
use lib.Seq.{get_or-take, get_or-drop}
use Rattle.base.proofs.EveryLaws.{every_at}
use Rattle.base.proofs.Truth.{both_yes}
use Rattle.base.specs.LittleEndian.{le_at}
use Rattle.base.specs.Lists.{Below}
use Rattle.bvh.specs.Build.{order_written}
use Rattle.bvh.specs.Entry.{entries_in}
use Rattle.corners.proofs.CornerLaws.{length_in_turn, part_in_turn, length_linked, length_linked_record}
use Rattle.corners.proofs.LinkLaws.{links_forget, byte_kept, two_kept, in_turn_same}
use Rattle.corners.specs.Corners.{in_turn, kinds_known, is_triangle, corners_of, link_bytes, linked_record, linked_records, links_put}
use Rattle.edges.specs.Edges.{linked}
use Rattle.sides.specs.Links.{links_of}
use Rattle.polygon.proofs.KindLaws.{kind_read}
use Rattle.polygon.proofs.ReadBack.{kind_written}
use Rattle.polygon.proofs.Sizes.{polygon_bytes_lem}
use Rattle.polygon.specs.Halves.{halves_at}
use Rattle.polygon.specs.Polygons.{polygon_bytes, polygon_of, polygon_at, kind_at}
use Rattle.polygon.specs.declared.Polygon.{Polygon}
use Rattle.polygon_boxes.specs.Boxes.{bbox_of}
use Rattle.polygon_items.specs.Items.{item_words, item_at, items_of}
use Rattle.reorder.proofs.ReadAgain.{record_in_turn}
use Rattle.reorder.specs.Reordering.{relinked, moved_to, reordered_of, rebuilt_records, rebuilt_of, lookup_of}
use Rattle.rebuild.specs.Rebuilding.{leaf_limit}
use Rattle.rebuild.proofs.OrderLaws.{order_length, places_below}
use Rattle.rebuild.proofs.Unlinked.{unlinked, relinked_alike, box_alike, record_linked, record_alike, triangles_alike}

-- ---- records one after the other

module _ (n : ℕ) (f : ℕ → List ℕ) (each : (k : ℕ) → k < n → length (f k) ≡ 16) where
  first_byte : (k : ℕ) → k < n → get_or (in_turn n f) (16 * k) 0 ≡ get_or (f k) 0 0
  first_byte k h = ap (λ (i : ℕ). get_or (in_turn n f) i 0) (sym (add-zero (16 * k))) ∙ part_in_turn 16 f n each k 0 h (omega arith)

  linked_in_turn : (links : List ℕ) (k : ℕ) → k < n → linked_record links (in_turn n f) k ≡ record_linked links k (f k)
  unfolding linked_record
  linked_in_turn links k h =
      ap₂ (λ (t : Bool) (r : List ℕ). cond t (take 10 r ++ link_bytes links k) r) (ap (λ (x : ℕ). eqb (x % 8) 0) (first_byte k h)) (record_in_turn n f each k h)

  -- of n records nothing stands behind those that links were stored in
  nothing_behind : (links : List ℕ) → drop (length (linked_records n links (in_turn n f))) (in_turn n f) ≡ []
  nothing_behind links =
      let many = length_in_turn 16 f n each in
      drop_of_length-le (in_turn n f) {i = length (linked_records n links (in_turn n f))}
      (omega (arith, length_linked n links (in_turn n f) (omega arith)))

-- ---- links made anew

-- Records that differ in links alone give the same corners, and so the same links.
linked_alike : (n : ℕ) (b b' : List ℕ) → 16 * n ≤ length b → 16 * n ≤ length b' → ((links : List ℕ) → links_put n links b ≡ links_put n links b')
    → linked n b ≡ linked n b'
unfolding linked
linked_alike n b b' h h' same =
    let corners : corners_of n b ≡ corners_of n b' = sym (links_forget n [] b h) ∙ ap (corners_of n) (same []) ∙ links_forget n [] b' h' in
    ap (λ (cs : List ℕ). links_put n (links_of cs) b) corners ∙ same (links_of (corners_of n b'))

abbrev written : (ℕ → Polygon) → ℕ → List ℕ
written p k = polygon_bytes (p k)

module _ (n : ℕ) (p q : ℕ → Polygon) (alike : (k : ℕ) → k < n → unlinked (p k) ≡ unlinked (q k)) where
  sixteen : (r : ℕ → Polygon) (k : ℕ) → k < n → length (written r k) ≡ 16
  sixteen r k h = (polygon_bytes_lem (r k)).size

  same_record : (links : List ℕ) (k : ℕ) → k < n → record_linked links k (written p k) ≡ record_linked links k (written q k)
  same_record links k h =
      record_alike links k (p k) ∙ ap (λ (u : Polygon). record_linked links k (polygon_bytes u)) (alike k h) ∙ sym (record_alike links k (q k))

  same_put : (links : List ℕ) → links_put n links (in_turn n (written p)) ≡ links_put n links (in_turn n (written q))
  unfolding links_put
  same_put links =
      let records : linked_records n links (in_turn n (written p)) ≡ linked_records n links (in_turn n (written q)) =
      in_turn_same (linked_record links (in_turn n (written p))) (linked_record links (in_turn n (written q))) n
      (λ k h. linked_in_turn n (written p) (sixteen p) links k h ∙ same_record links k h ∙ sym (linked_in_turn n (written q) (sixteen q) links k h)) in
      ap₂ (λ (a b : List ℕ). a ++ b) records (nothing_behind n (written p) (sixteen p) links ∙ sym (nothing_behind n (written q) (sixteen q) links))

  -- The records of polygons that differ in links alone, once their links are made.
  pub polygons_alike : linked n (in_turn n (written p)) ≡ linked n (in_turn n (written q))
  polygons_alike =
      let long : (r : ℕ → Polygon) → length (in_turn n (written r)) ≡ 16 * n = λ r. length_in_turn 16 (written r) n (sixteen r) in
      linked_alike n (in_turn n (written p)) (in_turn n (written q)) (omega (arith, long p)) (omega (arith, long q)) same_put

-- ---- what is read once links are stored

module _ (n : ℕ) (links bytes : List ℕ) (room : 16 * n ≤ length bytes) where
  abbrev after : List ℕ
  after = links_put n links bytes

  front : (k : ℕ) → k < n → le_at 2 after (16 * k) ≡ le_at 2 bytes (16 * k)
  front k h =
      ap (le_at 2 after) (sym (add-zero (16 * k))) ∙ two_kept n links bytes room k 0 h (omega arith) ∙ ap (le_at 2 bytes) (add-zero (16 * k))

  triangle_read : (k : ℕ) → k < n → kind_at bytes (16 * k) ≡ 0 → unlinked (polygon_at after (16 * k)) ≡ unlinked (polygon_at bytes (16 * k))
  unfolding polygon_at halves_at
  triangle_read k h e =
      let two : (j : ℕ) → j < 9 → le_at 2 after (16 * k + j) ≡ le_at 2 bytes (16 * k + j) = λ j b. two_kept n links bytes room k j h b in
      triangles_alike (halves_at after (16 * k)) (halves_at bytes (16 * k)) (front k h) (two 2 (omega arith)) (two 4 (omega arith)) (two 6 (omega arith))
      (two 8 (omega arith)) (ap (λ (x : ℕ). x % 8) (front k h) ∙ kind_read bytes (16 * k) ∙ e)

  -- of another kind every byte is kept
  byte_other : (k j : ℕ) → k < n → j < 16 → is_triangle bytes k ≡ false → get_or after (16 * k + j) 0 ≡ get_or bytes (16 * k + j) 0
  unfolding links_put linked_record
  byte_other k j h b e =
      let records = linked_records n links bytes in
      let long = length_linked n links bytes room in
      let r = take 16 (drop (16 * k) bytes) in
      get_or-append records (drop (length records) bytes) 0 (16 * k + j) (omega arith)
      ∙ part_in_turn 16 (linked_record links bytes) n (λ q c. length_linked_record links bytes q (omega arith)) k j h b
      ∙ ap (λ (t : Bool). get_or (cond t (take 10 r ++ link_bytes links k) r) j 0) e
      ∙ get_or-take 16 (drop (16 * k) bytes) j 0 b
      ∙ get_or-drop (16 * k) bytes j 0

  two_other : (k j : ℕ) → k < n → j < 15 → is_triangle bytes k ≡ false → le_at 2 after (16 * k + j) ≡ le_at 2 bytes (16 * k + j)
  unfolding le_at
  two_other k j h b e =
      let next : 16 * k + j + 1 ≡ 16 * k + (j + 1) = omega arith in
      let low = byte_other k j h (omega arith) e in
      let high = byte_other k (j + 1) h (omega arith) e in
      rw (next, low, high)

  other_read : (k : ℕ) → k < n → is_triangle bytes k ≡ false → polygon_at after (16 * k) ≡ polygon_at bytes (16 * k)
  unfolding polygon_at halves_at
  other_read k h e =
      let e0 = front k h in
      let e2 = two_other k 2 h (omega arith) e in
      let e4 = two_other k 4 h (omega arith) e in
      let e6 = two_other k 6 h (omega arith) e in
      let e8 = two_other k 8 h (omega arith) e in
      let e10 = two_other k 10 h (omega arith) e in
      let e12 = two_other k 12 h (omega arith) e in
      let e14 = two_other k 14 h (omega arith) e in
      let same : halves_at after (16 * k) ≡ halves_at bytes (16 * k) =
      λ i. record { at0 = e0 i; at2 = e2 i; at4 = e4 i; at6 = e6 i; at8 = e8 i; at10 = e10 i; at12 = e12 i; at14 = e14 i } in
      ap polygon_of same

  -- A polygon is read as before, but for its links.
  pub read_alike : (k : ℕ) → k < n → unlinked (polygon_at after (16 * k)) ≡ unlinked (polygon_at bytes (16 * k))
  read_alike k h = by (is_triangle bytes k) refl
    where
      by : (t : Bool) → is_triangle bytes k ≡ t → unlinked (polygon_at after (16 * k)) ≡ unlinked (polygon_at bytes (16 * k))
      by true e = triangle_read k h (eqb-true (kind_at bytes (16 * k)) 0 e)
      by false e = ap unlinked (other_read k h e)

  pub box_without_links : (ws : List ℕ) (k : ℕ) → k < n → bbox_of (polygon_at after (16 * k)) ws ≡ bbox_of (polygon_at bytes (16 * k)) ws
  box_without_links ws k h =
      sym (box_alike ws (polygon_at after (16 * k)))
      ∙ ap (λ (u : Polygon). bbox_of u ws) (read_alike k h)
      ∙ box_alike ws (polygon_at bytes (16 * k))

  kinds_upto : (m : ℕ) → m ≤ n → kinds_known m after ≡ kinds_known m bytes
  kinds_upto zero h = refl
  kinds_upto (suc m) h =
      let at : get_or after (16 * m) 0 ≡ get_or bytes (16 * m) 0 =
      ap (λ (i : ℕ). get_or after i 0) (sym (add-zero (16 * m)))
      ∙ byte_kept n links bytes room m 0 (omega arith) (omega arith)
      ∙ ap (λ (i : ℕ). get_or bytes i 0) (add-zero (16 * m)) in
      ap₂ (λ (a : Bool) (x : ℕ). a && leb (x % 8) 4) (kinds_upto m (omega arith)) at

-- ---- the laws

-- The boxes do not depend on the links: those that an earlier pass made, or any others.
pub boxes_without_links : (n : ℕ) (bytes ws : List ℕ) → 16 * n ≤ length bytes → items_of n (linked n bytes) ws ≡ items_of n bytes ws
unfolding linked
boxes_without_links n bytes ws room =
    let links = links_of (corners_of n bytes) in
    in_turn_same (item_at (links_put n links bytes) ws) (item_at bytes ws) n (λ k h. ap item_words (box_without_links n links bytes room ws k h))

pub kinds_linked : (n : ℕ) (bytes : List ℕ) → 16 * n ≤ length bytes → kinds_known n (linked n bytes) ≡ kinds_known n bytes
unfolding linked
kinds_linked n bytes room = kinds_upto n (links_of (corners_of n bytes)) bytes room n (omega arith)

-- Records that are written are of a known kind.
pub kinds_written : (n : ℕ) (p : ℕ → Polygon) → kinds_known n (in_turn n (written p)) ≡ true
kinds_written n p = upto n (omega arith)
  where
    known : (k : ℕ) → k < n → kind_at (in_turn n (written p)) (16 * k) ≤ 4
    known k h =
        subst (λ (x : ℕ). x % 8 ≤ 4) (sym (first_byte n (written p) (λ j b. (polygon_bytes_lem (p j)).size) k h))
        (subst (λ (l : List ℕ). kind_at l 0 ≤ 4) (append-nil (written p k)) (kind_written (p k) []))

    upto : (m : ℕ) → m ≤ n → kinds_known m (in_turn n (written p)) ≡ true
    upto zero h = refl
    upto (suc m) h = both_yes (upto m (omega arith)) (le-leb _ _ (known m (omega arith)))

module _ (n : ℕ) (order lookup bytes : List ℕ) where
  -- The renumbering leaves no trace once links are made anew.
  pub renumbering_leaves_no_trace : linked n (rebuilt_records n order lookup bytes) ≡ linked n (reordered_of n order bytes)
  renumbering_leaves_no_trace =
      polygons_alike n (λ k. relinked lookup (moved_to order bytes k)) (moved_to order bytes) (λ k h. relinked_alike lookup (moved_to order bytes k))

  -- Nor does a pass before the polygons were moved.
  pub first_pass_leaves_no_trace : 16 * n ≤ length bytes → n ≤ length order → Below n order
      → linked n (rebuilt_records n order lookup (linked n bytes)) ≡ linked n (reordered_of n order bytes)
  unfolding linked
  first_pass_leaves_no_trace room long below =
      let links = links_of (corners_of n bytes) in
      let first = links_put n links bytes in
      polygons_alike n (λ k. relinked lookup (moved_to order first k)) (moved_to order bytes)
      (λ k h. relinked_alike lookup (moved_to order first k)
      ∙ read_alike n links bytes room (get_or order k 0) (every_at (λ x. x < n) order k below (omega arith)))

-- The source's steps, links, tree, order, renumbering, links again, are one pass over the given polygons in the order of the leaves.
pub both_passes_are_one : (n : ℕ) (bytes ws : List ℕ) → 16 * n ≤ length bytes
    → linked n (rebuilt_of n (order_written (entries_in n (items_of n (linked n bytes) ws)) leaf_limit) (linked n bytes))
    ≡ linked n (reordered_of n (order_written (entries_in n (items_of n bytes ws)) leaf_limit) bytes)
both_passes_are_one n bytes ws room =
    let order = order_written (entries_in n (items_of n bytes ws)) leaf_limit in
    ap (λ (items : List ℕ). linked n (rebuilt_of n (order_written (entries_in n items) leaf_limit) (linked n bytes))) (boxes_without_links n bytes ws room)
    ∙ first_pass_leaves_no_trace n order (lookup_of n order) bytes room (omega (arith, order_length n bytes ws)) (places_below n bytes ws)
