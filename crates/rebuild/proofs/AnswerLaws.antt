-- What a rebuild answers: the build's answer over the boxes, which can only be a tree or that it has too many nodes, since no buffer is too short.
use Rattle.std.specs.Prelude.{◌≡◌, ℕ, ◌+◌, ◌*◌, ◌≤◌, false, List, length, take, drop, Ok, Err}
use native.Mathlib.Omega.{arith}
use mathlib.Core.Path.{refl, sym, ap, subst, ◌∙◌}
use borrow.Author.Tests.{le-ltb}
use lib.Ieee.{Float}
use lib.Seq.{take_at}
use Rattle.base.specs.Lists.{over}
use Rattle.bvh.specs.Build.{Build, Entries, answer_by, short, kept, order_written}
use Rattle.bvh.specs.Entry.{Outputs, Lent, lent, lengths_of, entries_in, AnsweredBy}
use Rattle.bvh.specs.declared.slices.BuiltTree.{BuiltTree}
use Rattle.bvh.specs.declared.slices.Lengths.{Lengths}
use Rattle.corners.proofs.CornerLaws.{length_over}
use Rattle.polygon_items.specs.Items.{items_of}
use Rattle.reorder.specs.Reordering.{rebuilt_of}
use Rattle.reorder.specs.Steps.Lent.{Rebuildable}
use Rattle.rebuild.specs.Rebuilding.{leaf_limit, tree_answer_by, Rebuilt}
use Rattle.rebuild.specs.Steps.Room.{BuildRoom}
use Rattle.rebuild.proofs.OrderLaws.{length_items, order_taken, numbered}

-- ---- no buffer is too short

not_short : (p : ℕ) (o : Outputs) (l : Lent) → BuildRoom p o l → short p (lengths_of o l) ≡ false
not_short p o l b =
    rw (
      le-ltb (length o.nodes) (16 * (2 * p + 1)) b.nodes_room,
      le-ltb (length o.trees) (16 * (2 * p + 1)) b.trees_room,
      le-ltb (length o.order) p b.order_room,
      le-ltb (length l.entries) (7 * p) b.entries_room,
      le-ltb (length l.places) p b.places_room,
      le-ltb (length l.temp) p b.temp_room,
      le-ltb (length l.stack) p b.stack_room,
      le-ltb (length l.rows) (8 * (2 * p + 1)) b.rows_room,
      le-ltb (length l.centres) (4 * p) b.centres_room,
    )

answer_is : (limit : ℕ) (e : Entries) (l : Lengths) → e.number ≤ 32767 → short e.number l ≡ false
    → answer_by limit e leaf_limit l ≡ tree_answer_by limit e
unfolding answer_by tree_answer_by
answer_is limit e l few enough = rw (le-ltb 32767 e.number few, enough)

-- ---- over the boxes

module _ (limit p : ℕ) (bytes ws : List ℕ) (few : p ≤ 32767) where
  abbrev e : Entries
  e = entries_in p (items_of p bytes ws)

  number_is : e.number ≡ p
  unfolding entries_in
  number_is = refl

  -- what the core answers over the words that hold the boxes
  pub over_boxes : (entries held places temp stack rows : List ℕ) (centres : List Float) (r : Build) (o o' : Outputs)
      → 7 * p ≤ length entries → held ≡ over (items_of p bytes ws) entries
      → AnsweredBy limit (entries_in p (take (7 * p) held)) leaf_limit (lengths_of o (lent held places temp stack rows centres)) r o o'
      → AnsweredBy limit e leaf_limit (lengths_of o (lent entries places temp stack rows centres)) r o o'
  over_boxes entries held places temp stack rows centres r o o' room q a =
      let items = items_of p bytes ws in
      let many = length_items p bytes ws in
      let words : take (7 * p) held ≡ items = ap (take (7 * p)) q ∙ take_at items (drop (length items) entries) (7 * p) many in
      let same : length held ≡ length entries = ap length q ∙ length_over items entries (omega arith) in
      rw (words, same) at a

  module _ (l : Lent) (r : Build) (o o' : Outputs) (b : BuildRoom p o l) (a : AnsweredBy limit e leaf_limit (lengths_of o l) r o o') where
    -- what is asked before the records are moved
    pub rebuildable : (temp polygons out : List ℕ) → p ≤ length temp → 16 * p ≤ length polygons → 16 * p ≤ length out
        → (t : BuiltTree) → r ≡ Ok t → Rebuildable p o'.order temp polygons out
    rebuildable temp polygons out ht hp ho t is =
        let order_is : o'.order ≡ over (order_written e leaf_limit) o.order =
        a.order_is ∙ ap (λ (x : Build). kept x (order_written e leaf_limit) o.order) is in
        record {
          numbering = numbered p bytes ws o.order o'.order b.order_room order_is few;
          lookup_room = ht;
          records = hp;
          room = ho;
        }

    records_are : (polygons out out' : List ℕ) (x : Build) → r ≡ x → out' ≡ kept x (rebuilt_of p (take p o'.order) polygons) out
        → out' ≡ kept x (rebuilt_of p (order_written e leaf_limit) polygons) out
    records_are polygons out out' (Ok t) is q =
        let order_is : o'.order ≡ over (order_written e leaf_limit) o.order =
        a.order_is ∙ ap (λ (x : Build). kept x (order_written e leaf_limit) o.order) is in
        q
        ∙ ap (λ (order : List ℕ). over (rebuilt_of p order polygons) out) (order_taken p bytes ws o.order o'.order b.order_room order_is)
    records_are polygons out out' (Err why) is q = q

    pub rebuilt : (polygons out out' : List ℕ) → out' ≡ kept r (rebuilt_of p (take p o'.order) polygons) out
        → Rebuilt limit e p polygons (lengths_of o l) r o o' out out'
    rebuilt polygons out out' q =
        let enough : short e.number (lengths_of o l) ≡ false = subst (λ (k : ℕ). short k (lengths_of o l) ≡ false) (sym number_is) (not_short p o l b) in
        record {
          built = a;
          answer = a.answer ∙ answer_is limit e (lengths_of o l) (omega (arith, number_is)) enough;
          records_are = records_are polygons out out' r refl q;
        }
