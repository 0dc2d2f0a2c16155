-- What `shape_bvh` asks of its two calls and has of them, over plain lists. One edge pass, behind the rebuild, leaves what the source's two passes do
-- (rebuild LinkTrace).
use Rattle.std.specs.Prelude.{◌≡◌, ℕ, zero, suc, ◌*◌, ◌%◌, ◌≤◌, Bool, true, ◌&&◌, leb, List, ◌++◌, length, get_or, take, drop, Ok, Err, Result, ⊤}
use native.Mathlib.Omega.{arith}
use mathlib.Core.Path.{refl, sym, ap, ap₂, subst, ◌∙◌}
use borrow.Author.Tests.{le-ltb}
use lib.ListN.{length-map, get_or-append}
use lib.Seq.{take_at}
use Rattle.base.proofs.NumberLaws.{below_wider}
use Rattle.base.specs.Lists.{Below, over}
use Rattle.bvh.specs.Build.{Build, Entries, kept, nodes_written, trees_written_by, order_written}
use Rattle.bvh.specs.Entry.{Outputs, Lent, lent, lengths_of}
use Rattle.bvh.specs.declared.slices.BuiltTree.{BuiltTree}
use Rattle.corners.specs.Corners.{kinds_known}
use Rattle.edges.specs.Edges as E
use Rattle.edges.specs.Edges.{linked, answer_of, Answered}
use Rattle.edges.specs.declared.entry.Lengths.{Lengths}
use Rattle.edges.specs.Steps.Work.{Work}
use Rattle.linking.proofs.LinkedLaws.{linked_over}
use Rattle.meshes.specs.declared.Bound.{Bound}
use Rattle.polygon.specs.declared.PolygonsRefusal.{PolygonsRefusal}
use Rattle.points.specs.Points.{positions_of}
use Rattle.prepared.specs.Answers.{BvhWork}
use Rattle.prepared.specs.Rebuilt.{entries_of8, order_of8, polygons_of8}
use Rattle.prepared.specs.Steps.Shapes.{BvhRoom, BvhShapedBy}
use Rattle.rebuild.proofs.LinkTrace.{kinds_written}
use Rattle.rebuild.proofs.OrderLaws.{order_length, places_below, order_taken, numbered}
use Rattle.rebuild.specs.Rebuilding.{leaf_limit, tree_answer_by, polygon_entries, Rebuilt}
use Rattle.reorder.proofs.RecordLaws.{length_rebuilt}
use Rattle.reorder.specs.Reordering.{in_order, relinked, moved_to, rebuilt_of, lookup_of}
use Rattle.bvh_shape.proofs.Given.{entries_given, order_given, polygons_given}
use Rattle.bvh_shape.specs.Sorting.{Sortable, Sorted, linked_if}

-- ---- the links are not refused

-- the lengths of what links are worked out in
abbrev pub lengths_for : List ℕ → List ℕ → List ℕ → List ℕ → List ℕ → List ℕ → Lengths
lengths_for out entries places temp stack rows =
    record {
      polygons = length out;
      corners = length entries;
      keys = length places;
      sides = length temp;
      spare = length stack;
      links = length rows;
    }

module _ (p : ℕ) (out entries places temp stack rows : List ℕ) (w : Work p out entries places temp stack rows) (known : kinds_known p out ≡ true) where
  not_refused : answer_of p (lengths_for out entries places temp stack rows) out ≡ Ok tt
  unfolding answer_of
  not_refused =
      rw (
        le-ltb 32767 p w.few,
        le-ltb (length out) (16 * p) w.records,
        le-ltb (length entries) (3 * p) w.for_corners,
        le-ltb (length places) (3 * p) w.for_keys,
        le-ltb (length temp) (3 * p) w.for_sides,
        le-ltb (length stack) (3 * p) w.for_spare,
        le-ltb (length rows) (3 * p) w.for_links,
        known,
      )

  pub links_made : (out' : List ℕ) (r : Result ⊤ PolygonsRefusal) → Answered p (lengths_for out entries places temp stack rows) out out' r → out' ≡ linked p out
  links_made out' r a = a.bytes ∙ ap (λ (x : Result ⊤ PolygonsRefusal). E.kept x (linked p out) out) (a.answer ∙ not_refused)

-- Records that are written over a list are of known kinds.
known_over : (p : ℕ) (records rest : List ℕ) → length records ≡ 16 * p → kinds_known p (records ++ rest) ≡ kinds_known p records
known_over p records rest long = upto p (omega arith)
  where
    upto : (m : ℕ) → m ≤ p → kinds_known m (records ++ rest) ≡ kinds_known m records
    upto zero h = refl
    upto (suc m) h =
        ap₂ (λ (a : Bool) (x : ℕ). a && leb (x % 8) 4) (upto m (omega arith)) (get_or-append records rest 0 (16 * m) (omega arith))

-- ---- once the tree is built

abbrev pub lent_of : BvhWork → Lent
lent_of w = lent w.entries w.places w.temp w.stack w.rows w.centres

module _ (p v : ℕ) (polygons numbers vertices out : List ℕ) (t : Outputs) (w : BvhWork) (room : BvhRoom p v polygons numbers vertices out t w) where
  module _ (limit : ℕ) (b : Bound) (r : Build) (t' : Outputs) (out₁ : List ℕ)
      (a : Rebuilt limit (polygon_entries b.transform b.center p v polygons vertices) p polygons (lengths_of t (lent_of w)) r t t' out out₁) where
    abbrev e : Entries
    e = polygon_entries b.transform b.center p v polygons vertices

    abbrev at : List ℕ
    at = positions_of b.transform b.center vertices v

    ordered : (x : BuiltTree) → r ≡ Ok x → t'.order ≡ over (order_written e leaf_limit) t.order
    ordered x is = a.built.order_is ∙ ap (λ (y : Build). kept y (order_written e leaf_limit) t.order) is

    in_leaf_order : (x : BuiltTree) → r ≡ Ok x → take p t'.order ≡ order_written e leaf_limit
    in_leaf_order x is = order_taken p polygons at t.order t'.order room.for_order (ordered x is)

    abbrev moved : List ℕ
    moved = rebuilt_of p (order_written e leaf_limit) polygons

    moved_length : length moved ≡ 16 * p
    moved_length = length_rebuilt p (order_written e leaf_limit) (lookup_of p (order_written e leaf_limit)) polygons

    pub sortable : (entries places temp stack rows : List ℕ) → length out₁ ≡ length out → length entries ≡ length w.entries
        → length places ≡ length w.places → length temp ≡ length w.temp → length stack ≡ length w.stack
        → length rows ≡ length w.rows → (x : BuiltTree) → r ≡ Ok x → Sortable p numbers out₁ t'.order entries places temp stack rows w.sorted
    sortable entries places temp stack rows eo ee ep et es er x is =
        record {
          work =
              record {
                few = room.few;
                records = omega (arith, room.for_out);
                for_corners = omega (arith, room.for_entries);
                for_keys = omega (arith, room.for_places);
                for_sides = omega (arith, room.for_temp);
                for_spare = omega (arith, room.for_stack);
                for_links = omega (arith, room.for_rows);
              };
          known =
              ap (kinds_known p) (a.records_are ∙ ap (λ (y : Build). kept y moved out) is)
              ∙ known_over p moved (drop (length moved) out) moved_length
              ∙ kinds_written p (λ k. relinked (lookup_of p (order_written e leaf_limit)) (moved_to (order_written e leaf_limit) polygons k));
          long = (numbered p polygons at t.order t'.order room.for_order (ordered x is) room.few).long;
          places_below =
              subst (Below (length numbers)) (sym (in_leaf_order x is))
              (below_wider p (length numbers) (order_written e leaf_limit) room.numbered (places_below p polygons at));
          for_sorted = room.for_sorted;
        }

    records_are : (out₂ : List ℕ) (y : Build) → out₁ ≡ kept y moved out → out₂ ≡ linked_if y p out₁
        → out₂ ≡ kept y (polygons_of8 b p v polygons vertices) out
    records_are out₂ (Ok x) was is =
        is
        ∙ ap (linked p) was
        ∙ linked_over p moved out moved_length
        ∙ ap (λ (l : List ℕ). over l out) (sym (polygons_given b p v polygons vertices room.records))
    records_are out₂ (Err why) was is = is ∙ was

    numbers_are : (sorted : List ℕ) → sorted ≡ kept r (in_order (take p t'.order) numbers) w.sorted → (x : BuiltTree) → r ≡ Ok x
        → take p sorted ≡ in_order (order_of8 b p v polygons vertices) numbers
    numbers_are sorted q x is =
        let order = order_written e leaf_limit in
        let ns = in_order order numbers in
        ap (take p)
        (q
        ∙ ap (λ (y : Build). kept y (in_order (take p t'.order) numbers) w.sorted) is
        ∙ ap (λ (l : List ℕ). over (in_order l numbers) w.sorted) (in_leaf_order x is))
        ∙ take_at ns (drop (length ns) w.sorted) p (length-map order (λ old. get_or numbers old 0) ∙ order_length p polygons at)
        ∙ ap (λ (l : List ℕ). in_order l numbers) (sym (order_given b p v polygons vertices room.records))

    pub shaped : (out₂ sorted : List ℕ) → Sorted r p numbers t'.order out₁ out₂ w.sorted sorted
        → BvhShapedBy limit b p v polygons numbers vertices out out₂ t t' sorted r
    shaped out₂ sorted s =
        let same : e ≡ entries_of8 b p v polygons vertices = sym (entries_given b p v polygons vertices room.records) in
        record {
          answer = a.answer ∙ ap (tree_answer_by limit) same;
          records_are = records_are out₂ r a.records_are s.linked_are;
          nodes_are = a.built.nodes_are ∙ ap (λ (x : Entries). kept r (nodes_written x leaf_limit) t.nodes) same;
          trees_are = a.built.trees_are ∙ ap (λ (x : Entries). kept r (trees_written_by limit x leaf_limit) t.trees) same;
          order_is = a.built.order_is ∙ ap (λ (x : Entries). kept r (order_written x leaf_limit) t.order) same;
          numbers_are = numbers_are sorted s.numbers_are;
        }
