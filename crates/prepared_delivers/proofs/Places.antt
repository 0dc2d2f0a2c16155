-- The entries of p polygons: each polygon is listed once, and no other number is; the order of the leaves has each once. For an order of leaves holds
-- the listed places (growth GrowLaws), and it is a permutation of the polygons' numbers (rebuild OrderLaws).
use Prim.Native.Nat.{ℕ, ◌<◌}
use native.Mathlib.Omega.{arith}
use mathlib.Core.List.{List, Memᴰ}
use mathlib.Core.Path.{◌≡◌, sym, subst, ◌∙◌}
use lib.ListN.{length, get_or}
use Rattle.base.specs.Lists.{occurrences, Among}
use Rattle.bvh.specs.Build.{Entries, tree_of, order_written}
use Rattle.bvh.specs.Entry.{entries_in}
use Rattle.growth.proofs.GrowLaws.{leaf_order_permutes, leaf_order_length}
use Rattle.growth.proofs.Lawful.{lawful}
use Rattle.growth.specs.Grow.{builder}
use Rattle.materials.specs.Materials.{place_in}
use Rattle.polygon_items.specs.Items.{items_of}
use Rattle.rebuild.proofs.OrderLaws.{order_permutes, order_length, places_below}
use Rattle.rebuild.specs.Rebuilding.{leaf_limit}
use Rattle.reorder.proofs.LookupLaws.{old_of_new, new_below, none_twice, among_at}
use Rattle.sides.proofs.EveryOf.{every_among}
use Rattle.tree.proofs.AnswerLaws.{Listed, words_listed}
use Rattle.prepared_delivers.proofs.Orders.{occurs_there}

module _ (p : ℕ) (bytes ws : List ℕ) where
  abbrev e : Entries
  e = entries_in p (items_of p bytes ws)

  abbrev order : List ℕ
  order = order_written e leaf_limit

  pub polygons_listed : Listed e
  polygons_listed = words_listed p (items_of p bytes ws)

  pub as_many_listed : length e.places ≡ p
  unfolding order_written tree_of
  as_many_listed =
      sym (leaf_order_length (builder e.at) (lawful e.at) leaf_limit (omega arith) e.places) ∙ order_length p bytes ws

  same_places : (q : ℕ) → occurrences q order ≡ occurrences q e.places
  unfolding order_written tree_of
  same_places q = leaf_order_permutes (builder e.at) (lawful e.at) leaf_limit (omega arith) e.places q

  pub once_in_order : (q : ℕ) → q < p → occurrences q order ≡ 1
  once_in_order q h =
      let long = order_length p bytes ws in
      let permuted = order_permutes p bytes ws in
      let there : Among q order =
      subst (λ (y : ℕ). Among y order) (old_of_new p order long permuted q h)
      (among_at order (place_in order q) (omega (arith, long, new_below p order long permuted q h))) in
      omega (arith, there, none_twice p order long permuted q)

  pub each_listed_once : (q : ℕ) → q < p → occurrences q e.places ≡ 1
  each_listed_once q h = sym (same_places q) ∙ once_in_order q h

  pub only_polygons_listed : (q : ℕ) → Among q e.places → q < p
  only_polygons_listed q m = every_among (λ y. y < p) q order (places_below p bytes ws) (omega (arith, m, same_places q))

  -- what stands in the order is listed
  pub place_listed : (k : ℕ) → k < p → Memᴰ (get_or order k 0) e.places
  place_listed k h =
      let q = get_or order k 0 in
      occurs_there q e.places (subst (λ (m : ℕ). 0 < m) (same_places q) (among_at order k (omega (arith, order_length p bytes ws))))
