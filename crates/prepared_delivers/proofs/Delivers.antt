-- Point 3 of the request for a prepared mesh with a tree, from the contracts of `shape_bvh` and of a walk alone: the tree is a build at threshold 4 over
-- the polygons' boxes, so tree's PointThree speaks of it; a position is a polygon's number in the prepared list (Orders, Boxes).
use Rattle.std.specs.Prelude.{Ok}
use Prim.Native.Nat.{ℕ, ◌+◌, ◌*◌, ◌≤◌, ◌<◌}
use native.Mathlib.Omega.{arith}
use mathlib.Core.Bool.{Bool, true, false, cond}
use mathlib.Core.List.{List, Memᴰ}
use mathlib.Core.Path.{◌≡◌, refl, sym, ap, ap₂, subst, ◌∙◌}
use borrow.Author.Tests.{le-ltb, ltb-true, ltb-false}
use lib.Dec.{ltb}
use lib.ListN.{length, get_or, take, drop, get_or-append}
use lib.Seq.{take-append_seam, take_at}
use Rattle.base.specs.Lists.{occurrences, Among, over}
use Rattle.bvh.specs.Build.{Entries, answer_of, answer_by, short, order_written, nodes_written, trees_written}
use Rattle.bvh.specs.Entry.{Outputs, Answered, entries_in}
use Rattle.bvh.specs.declared.slices.BuiltTree.{BuiltTree}
use Rattle.bvh.specs.declared.slices.Lengths.{Lengths}
use Rattle.bvh_shape.proofs.Given.{positions, given, leaves, entries_given}
use Rattle.materials.specs.Materials.{place_in}
use Rattle.math.specs.declared.aabb.Aabb.{Aabb}
use Rattle.meshes.specs.declared.Bound.{Bound}
use Rattle.entries.specs.declared.boxes.BoxWords.{BoxWords}
use Rattle.polygon_items.specs.Items.{items_of}
use Rattle.prepared.specs.Rebuilt.{entries_of8, polygons_of8}
use Rattle.prepared.specs.Steps.Shapes.{BvhShaped}
use Rattle.rebuild.proofs.OrderLaws.{order_permutes, order_length}
use Rattle.rebuild.specs.Rebuilding.{leaf_limit, tree_answer, tree_answer_by}
use Rattle.reorder.proofs.LookupLaws.{new_of_old}
use Rattle.tree.proofs.AnswerLaws.{built_passed}
use Rattle.tree.proofs.PointThree.{records_well_formed, walk_delivers}
use Rattle.tree.specs.Pair.{outcome_of, box_values, Delivered}
use Rattle.tree.specs.WellFormed.{items_at}
use Rattle.walk.specs.Walks.{Walk, Outcome, walk_of, counts_of, Promise}
use Rattle.walk.specs.declared.slices.Counts.{Counts}
use Rattle.walk_steps.specs.Boxes.{meets_box}
use Rattle.prepared_delivers.proofs.Boxes.{place_below, same_box, prepared_box}
use Rattle.prepared_delivers.proofs.Places.{polygons_listed, as_many_listed, once_in_order, place_listed}
use Rattle.prepared_delivers.proofs.Orders.{not_there, as_often}
use Rattle.prepared_delivers.specs.Delivers.{WalkedOver, handed_out, floats_of, box_of_record, Delivers}

-- ---- the tree is a build's

-- buffers that are just long enough
abbrev enough : ℕ → Lengths
enough p =
    record {
      nodes = 16 * (2 * p + 1);
      trees = 16 * (2 * p + 1);
      order = p;
      entries = 7 * p;
      places = p;
      temp = p;
      stack = p;
      rows = 8 * (2 * p + 1);
      centres = 4 * p;
    }

no_less : (n : ℕ) → ltb n n ≡ false
no_less n = le-ltb n n (omega arith)

not_short : (p : ℕ) → short p (enough p) ≡ false
not_short p = rw (no_less (16 * (2 * p + 1)), no_less p, no_less (7 * p), no_less (8 * (2 * p + 1)), no_less (4 * p))

answer_is : (p : ℕ) (items : List ℕ) → p ≤ 32767 → answer_of (entries_in p items) leaf_limit (enough p) ≡ tree_answer (entries_in p items)
unfolding answer_by tree_answer_by entries_in
answer_is p items few = rw (le-ltb 32767 p few, not_short p)

module _ (b : Bound) (p v : ℕ) (polygons vertices : List ℕ) (few : p ≤ 32767) (records : 16 * p ≤ length polygons)
    (each : (i : ℕ) → get_or polygons i 0 < 256) (x : BuiltTree) (before after : Outputs) where
  abbrev e : Entries
  e = given b p v polygons vertices

  abbrev at : List ℕ
  at = positions b p v polygons vertices

  abbrev order : List ℕ
  order = leaves b p v polygons vertices

  module _ (build : Answered e leaf_limit (enough p) (Ok x) before after) (out₀ written : List ℕ)
      (prepared : written ≡ over (polygons_of8 b p v polygons vertices) out₀) (query : Aabb) (out out' : List ℕ) (w : Walk)
      (walk : WalkedOver p query x after out out' w) where
    abbrev o : Outcome
    o = outcome_of e leaf_limit query x after (length out)

    d : Delivered e leaf_limit query x after (length out) o
    d = walk_delivers e (polygons_listed p polygons at) leaf_limit (enough p) before after x build query (length out)

    count_is : x.present ≡ p
    count_is = ap (λ (y : BuiltTree). y.present) (built_passed e leaf_limit (enough p) x build.answer).values ∙ as_many_listed p polygons at

    walk_is : Promise o out out' w
    unfolding outcome_of
    walk_is =
        subst
        (λ (m : ℕ). Promise
        (walk_of query x.scale.cen x.scale.inverse (record { nodes = x.nodes; trees = x.trees; items = m }) after.nodes after.trees (length out))
        out out' w)
        (sym count_is) walk

    handed_is : (counts_of w).handed ≡ length o.given
    handed_is = ap (λ (c : Counts). c.handed) walk_is.counts_are ∙ d.count_is

    out_is : handed_out out' w ≡ o.given
    out_is = ap₂ take handed_is walk_is.output_is ∙ take-append_seam o.given (drop (length o.given) out)

    below : (i : ℕ) → Memᴰ i o.given → i < p
    below i m = subst (λ (n : ℕ). i < n) count_is (d.positions_below i m)

    -- ---- positions are numbers of prepared polygons

    placed : (i : ℕ) → i < p → get_or after.order i 0 ≡ get_or order i 0
    placed i h =
        ap (λ (l : List ℕ). get_or l i 0) build.order_is
        ∙ get_or-append order (drop (length order) before.order) 0 i (omega (arith, order_length p polygons at))

    order_taken : take p after.order ≡ order
    order_taken = ap (take p) build.order_is ∙ take_at order (drop (length order) before.order) p (order_length p polygons at)

    again : (i : ℕ) → i < p → place_in order (get_or after.order i 0) ≡ i
    again i h = ap (place_in order) (placed i h) ∙ new_of_old p order (order_length p polygons at) (order_permutes p polygons at) i h

    counted : (k : ℕ) → k < p → occurrences (get_or after.order k 0) (items_at leaf_limit after o.given) ≡ occurrences k (handed_out out' w)
    counted k h = as_often p (λ i. get_or after.order i 0) (place_in order) again k h o.given below ∙ sym (ap (occurrences k) out_is)

    given_box : (k : ℕ) → k < p → box_of_record b v vertices written k ≡ box_of_record b v vertices polygons (get_or after.order k 0)
    given_box k h =
        ap floats_of (same_box b p v polygons vertices records each out₀ written prepared k h)
        ∙ ap (box_of_record b v vertices polygons) (sym (placed k h))

    met : (k : ℕ) → k < p → meets_box (box_of_record b v vertices written k) query ≡ true
        → meets_box (box_values (e.at (get_or after.order k 0))) query ≡ true
    met k h m =
        ap (λ (q : ℕ). meets_box (box_values (e.at q)) query) (placed k h)
        ∙ ap (λ (y : BoxWords). meets_box (box_values y) query) (sym (prepared_box b p v polygons vertices records each out₀ written prepared k h))
        ∙ m

    there : (k : ℕ) → k < p → Memᴰ (get_or after.order k 0) e.places
    there k h = subst (λ (q : ℕ). Memᴰ q e.places) (sym (placed k h)) (place_listed p polygons at k h)

    -- a number is handed out as often as its place, if it is a polygon's; any other never
    often : (k : ℕ) → Among k (handed_out out' w) → k < p
    often k h = by (ltb k p) refl
      where
        by : (t : Bool) → ltb k p ≡ t → k < p
        by true q = ltb-true k p q
        by false q = absurd (omega (arith, ap (occurrences k) out_is, not_there p k o.given below (ltb-false k p q)))

    once : (k : ℕ) → occurrences k (handed_out out' w) ≤ 1
    once k = by (ltb k p) refl
      where
        by : (t : Bool) → ltb k p ≡ t → occurrences k (handed_out out' w) ≤ 1
        by true q = omega (arith, counted k (ltb-true k p q), d.none_twice (get_or after.order k 0))
        by false q = omega (arith, ap (occurrences k) out_is, not_there p k o.given below (ltb-false k p q))

    pub of_build : Delivers b p v polygons vertices written query x after out out' w
    of_build =
        record {
          well_formed = records_well_formed e (polygons_listed p polygons at) leaf_limit (enough p) before after x build;
          each_polygon_is_present = count_is;
          order_has_each_given_number_once = λ q h. ap (occurrences q) order_taken ∙ once_in_order p polygons at q h;
          order_leads_to_the_given_polygon = λ k h.
              (subst (λ (q : ℕ). q < p) (sym (placed k h)) (place_below b p v polygons vertices records each k h), given_box k h);
          refused_exactly_where_the_output_is_short =
              walk_is.number_is ∙ d.refused_exactly ∙ ap (λ (m : ℕ). cond (ltb (length out) m) 2 0) count_is;
          every_polygon_that_meets = λ ordinary z k h m.
              sym (counted k h)
              ∙ d.every_item_that_meets ordinary (sym walk_is.number_is ∙ z) (get_or after.order k 0) (there k h) (met k h m);
          no_polygon_twice = once;
          only_polygons = often;
          none_from_a_leaf_that_misses = λ k m. d.from_leaves_that_meet k (subst (Memᴰ k) out_is m);
          as_many_as_it_says = ap length out_is ∙ sym handed_is;
          rest_as_it_was = walk_is.output_is ∙ ap (λ (xs : List ℕ). over xs out) (sym out_is);
          reads_at_most_nodes_plus_trees = omega (arith, ap (λ (c : Counts). c.reads) walk_is.counts_are, d.reads_at_most);
        }

  -- from what is known of the tree that a mesh was given, and of the buffer that its records were written to
  pub of_tree : Ok x ≡ tree_answer (entries_of8 b p v polygons vertices)
      → after.nodes ≡ over (nodes_written (entries_of8 b p v polygons vertices) leaf_limit) before.nodes
      → after.trees ≡ over (trees_written (entries_of8 b p v polygons vertices) leaf_limit) before.trees
      → after.order ≡ over (order_written (entries_of8 b p v polygons vertices) leaf_limit) before.order
      → (out₀ written : List ℕ) → written ≡ over (polygons_of8 b p v polygons vertices) out₀
      → (query : Aabb) (out out' : List ℕ) (w : Walk) → WalkedOver p query x after out out' w
      → Delivers b p v polygons vertices written query x after out out' w
  of_tree answer nodes trees places =
      let same = entries_given b p v polygons vertices records in
      of_build
      (record {
        answer = answer ∙ ap tree_answer same ∙ sym (answer_is p (items_of p polygons at) few);
        nodes_are = nodes ∙ ap (λ (y : Entries). over (nodes_written y leaf_limit) before.nodes) same;
        trees_are = trees ∙ ap (λ (y : Entries). over (trees_written y leaf_limit) before.trees) same;
        order_is = places ∙ ap (λ (y : Entries). over (order_written y leaf_limit) before.order) same;
      })

-- ---- the statement

-- Of the polygons that `shape_bvh` shaped with a tree, and a walk over that tree's records. `polygons` are bytes.
pub shape_delivers : (b : Bound) (p v : ℕ) (polygons numbers vertices out₀ out₁ : List ℕ) (before after : Outputs) (sorted : List ℕ) (x : BuiltTree)
    → p ≤ 32767 → 16 * p ≤ length polygons → ((i : ℕ) → get_or polygons i 0 < 256)
    → BvhShaped b p v polygons numbers vertices out₀ out₁ before after sorted (Ok x)
    → (query : Aabb) (out out' : List ℕ) (w : Walk) → WalkedOver p query x after out out' w
    → Delivers b p v polygons vertices out₁ query x after out out' w
shape_delivers b p v polygons numbers vertices out₀ out₁ before after sorted x few records each s =
    of_tree b p v polygons vertices few records each x before after s.answer s.nodes_are s.trees_are s.order_is out₀ out₁
    s.records_are
