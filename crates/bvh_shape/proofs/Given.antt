-- What kind 8 makes, over the polygons as given: the first edge pass and the renumbering leave no trace in the source's steps (rebuild LinkTrace).
use Rattle.std.specs.Prelude.{◌≡◌, ℕ, ◌*◌, ◌≤◌, List, length}
use mathlib.Core.Path.{sym, ap, ◌∙◌}
use Rattle.bvh.specs.Build.{Entries, order_written}
use Rattle.bvh.specs.Entry.{entries_in}
use Rattle.edges.specs.Edges.{linked}
use Rattle.meshes.specs.declared.Bound.{Bound}
use Rattle.points.specs.Points.{positions_of}
use Rattle.prepared.specs.Rebuilt.{entries_of8, order_of8, polygons_of8}
use Rattle.rebuild.proofs.LinkTrace.{boxes_without_links, renumbering_leaves_no_trace, both_passes_are_one}
use Rattle.rebuild.specs.Rebuilding.{leaf_limit, polygon_entries}
use Rattle.reorder.specs.Reordering.{rebuilt_of, lookup_of}
use Rattle.bvh_shape.specs.Sorting.{linked_in_order}

module _ (b : Bound) (p v : ℕ) (polygons vertices : List ℕ) where
  -- where the vertices stand, the entries, and the order of the leaves
  abbrev pub positions : List ℕ
  positions = positions_of b.transform b.center vertices v

  abbrev pub given : Entries
  given = polygon_entries b.transform b.center p v polygons vertices

  abbrev pub leaves : List ℕ
  leaves = order_written given leaf_limit

  module _ (records : 16 * p ≤ length polygons) where
    pub entries_given : entries_of8 b p v polygons vertices ≡ given
    unfolding entries_of8
    entries_given = ap (entries_in p) (boxes_without_links p polygons positions records)

    pub order_given : order_of8 b p v polygons vertices ≡ leaves
    unfolding order_of8
    order_given = ap (λ (e : Entries). order_written e leaf_limit) entries_given

    -- One edge pass over the polygons in leaf order.
    pub passes_are_one : polygons_of8 b p v polygons vertices ≡ linked_in_order p leaves polygons
    unfolding polygons_of8 order_of8 entries_of8
    passes_are_one = both_passes_are_one p polygons positions records

    -- The same with links renumbered before.
    pub polygons_given : polygons_of8 b p v polygons vertices ≡ linked p (rebuilt_of p leaves polygons)
    polygons_given = passes_are_one ∙ sym (renumbering_leaves_no_trace p leaves (lookup_of p leaves) polygons)
