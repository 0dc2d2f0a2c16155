-- A build of at most 256 child boxes at threshold 1 is not refused, and the lines of what it writes are the listing.
use Rattle.std.specs.Prelude.{◌≡◌, ℕ, ◌+◌, ◌*◌, ◌/◌, ◌≤◌, false, List, ◌++◌, length, Ok, Err}
use native.Mathlib.Decide.{dec_le}
use native.Mathlib.Omega.{arith}
use mathlib.Core.Path.{sym, ap, ap₂, ◌∙◌, subst}
use borrow.Author.Tests.{le-ltb}
use Rattle.base.proofs.NumberLaws.{length_up, up_below}
use Rattle.base.proofs.WithinLaws.{below_within, within_below}
use Rattle.base.proofs.NumberLaws.{below_wider}
use Rattle.base.specs.Lists.{over, Below}
use Rattle.bvh.specs.declared.slices.BuildRefusal.{BuildRefusal}
use Rattle.bvh.specs.declared.slices.BuiltTree.{BuiltTree}
use Rattle.bvh.specs.declared.slices.Lengths.{Lengths}
use Rattle.bvh.specs.Build.{Build, Entries, tree_of, built_of, short, answer_of, answer_by, kept, nodes_written, trees_written}
use Rattle.rows.specs.Steps.Decode.{SmallRows}
use Rattle.bvh.specs.Entry.{Answered, Outputs}
use Rattle.rows.specs.Output.{capacity_of}
use Rattle.rows.specs.Ranges.{ranges, range_limit}
use Rattle.rows.specs.Steps.Decode.{SmallRows}
use Rattle.rows.specs.Rows.{rows}
use Rattle.growth.specs.Grow.{builder, grow}
use Rattle.rows.specs.Tree.{leaf_order, size}
use Rattle.growth.proofs.Lawful.{lawful}
use Rattle.rows.proofs.RangeLaws.{ranges_few}
use Rattle.rows.proofs.SmallLaws.{small_rows}
use Rattle.growth.proofs.GrowLaws.{grow_leaf, size_most, leaf_order_length, leaf_order_within}
use Rattle.listing.specs.Lines.{counts_line, records_text}
use Rattle.listing.specs.Listing.{children_of, listing_of}
use Rattle.listing.proofs.Records.{node_lines_lem, tree_lines_lem}

-- ---- how large the tree is

size_few : (e : Entries) → size (tree_of e 1) ≤ 2 * length e.places + 1
unfolding tree_of
size_few e = go (dec_le (length e.places) 0)
  where
    go : Dec (length e.places ≤ 0) → size (grow (builder e.at) 1 e.places) ≤ 2 * length e.places + 1
    go (yes h) = rw (grow_leaf (builder e.at) 1 e.places (omega arith)) (omega arith)
    go (no h) = omega (arith, size_most (builder e.at) (lawful e.at) 1 (omega arith) e.places (omega arith))

-- At most 256 entries, whose present ones have places among them.
pub record FewEntries (e : Entries) : Type 0 where
  pub few : e.number ≤ 256
  pub most : length e.places ≤ e.number
  pub inside : Below 256 e.places

pub few_children : (input : List ℕ) → length input ≤ 8192 → FewEntries (children_of input)
unfolding children_of
few_children input h =
    let n = length input / 32 in
    record { few = omega arith; most = omega (arith, length_up 0 n); inside = up_below 0 n 256 (omega arith) }

-- ---- the answer

-- The buffers have room for 256 entries.
pub record Roomy (l : Lengths) : Type 0 where
  pub nodes_room : 8208 ≤ l.nodes
  pub trees_room : 8208 ≤ l.trees
  pub order_room : 256 ≤ l.order
  pub entries_room : 1792 ≤ l.entries
  pub places_room : 256 ≤ l.places
  pub temp_room : 256 ≤ l.temp
  pub stack_room : 256 ≤ l.stack
  pub rows_room : 4104 ≤ l.rows
  pub centres_room : 1024 ≤ l.centres

not_short : (n : ℕ) (l : Lengths) → n ≤ 256 → Roomy l → short n l ≡ false
not_short n l h r =
    rw (
      le-ltb l.nodes (16 * (2 * n + 1)) (omega arith),
      le-ltb l.trees (16 * (2 * n + 1)) (omega arith),
      le-ltb l.order n (omega arith),
      le-ltb l.entries (7 * n) (omega arith),
      le-ltb l.places n (omega arith),
      le-ltb l.temp n (omega arith),
      le-ltb l.stack n (omega arith),
      le-ltb l.rows (8 * (2 * n + 1)) (omega arith),
      le-ltb l.centres (4 * n) (omega arith),
    )

module _ (e : Entries) (f : FewEntries e) where
  entries_size : size (tree_of e 1) ≤ 513
  entries_size = omega (arith, size_few e, f.few, f.most)

  not_refused : (l : Lengths) → Roomy l → answer_of e 1 l ≡ Ok (built_of e 1 (tree_of e 1))
  unfolding answer_by tree_of
  not_refused l r =
      rw (le-ltb 32767 e.number (omega (arith, f.few)), not_short e.number l f.few r, le-ltb 32767 (size (tree_of e 1)) (omega (arith, entries_size)))

  -- ---- its records

  small : SmallRows 1 (leaf_order (tree_of e 1)) (rows 0 (tree_of e 1))
  unfolding tree_of
  small =
      let b = builder e.at in
      let law = lawful e.at in
      let within = leaf_order_within b law 1 (omega arith) (7 * 256) e.places (below_within 256 (7 * 256) e.places (omega arith) f.inside) in
      small_rows 1 (tree_of e 1) (below_wider 256 32768 (leaf_order (tree_of e 1)) (omega arith) (within_below 256 (leaf_order (tree_of e 1)) within))
      (omega (arith, leaf_order_length b law 1 (omega arith) e.places, f.few, f.most)) (omega (arith, entries_size))

  records_listed : (nodes trees : List ℕ)
      → records_text (over (nodes_written e 1) nodes) (size (tree_of e 1)) (capacity_of 1 e.number (size (tree_of e 1)))
      (over (trees_written e 1) trees) (length (ranges range_limit 0 (tree_of e 1)))
      ≡ listing_of e
  unfolding listing_of records_text
  records_listed nodes trees =
      let counts = counts_line (size (tree_of e 1)) (capacity_of 1 e.number (size (tree_of e 1))) in
      ap₂ (λ (ns ts : List ℕ). counts ++ ns ++ ts) (node_lines_lem e nodes small) (tree_lines_lem e trees (omega (arith, entries_size)))

-- ---- what the build leaves

-- It is not refused; its values, and the bytes of its records.
pub record Made (e : Entries) (r : Build) (before after : Outputs) : Type 0 where
  pub few : FewEntries e
  pub answer : r ≡ Ok (built_of e 1 (tree_of e 1))
  pub nodes_are : after.nodes ≡ over (nodes_written e 1) before.nodes
  pub trees_are : after.trees ≡ over (trees_written e 1) before.trees

made_by : (e : Entries) {l : Lengths} {r : Build} {before after : Outputs} → FewEntries e → Roomy l → Answered e 1 l r before after → Made e r before after
made_by e {l} {r} {before} few room a =
    let built = a.answer ∙ not_refused e few l room in
    record {
      few = few;
      answer = built;
      nodes_are = a.nodes_are ∙ ap (λ (b : Build). kept b (nodes_written e 1) before.nodes) built;
      trees_are = a.trees_are ∙ ap (λ (b : Build). kept b (trees_written e 1) before.trees) built;
    }

pub made : {d e : Entries} {l : Lengths} {r : Build} {before after : Outputs} → d ≡ e → FewEntries e → Roomy l
    → Answered d 1 l r before after → Made e r before after
made {d} {e} {l} {r} {before} {after} same few room a =
    made_by e few room (subst (λ (x : Entries). Answered x 1 l r before after) same a)

module _ (e : Entries) {r : Build} {before after : Outputs} (m : Made e r before after) where
  pub made_not : (w : BuildRefusal) → r ≡ Err w → ⊥
  made_not w is =
      let z : ◌≡◌ {A = ℕ} 0 1 = cc m.answer in
      omega arith

  module _ (b : BuiltTree) (is : r ≡ Ok b) where
    tree_is : b ≡ built_of e 1 (tree_of e 1)
    tree_is = let same : ◌≡◌ {A = Build} (Ok b) (Ok (built_of e 1 (tree_of e 1))) = sym is ∙ m.answer in cc

    pub nodes_few : b.nodes ≤ 513
    nodes_few = omega (arith, entries_size e m.few, ap (λ (t : BuiltTree). t.nodes) tree_is)

    pub capacity_few : b.capacity ≤ 513
    capacity_few = omega (arith, m.few.few, ap (λ (t : BuiltTree). t.capacity) tree_is)

    pub trees_few : b.trees ≤ 513
    trees_few = omega (arith, entries_size e m.few, ranges_few range_limit (omega arith) 0 (tree_of e 1), ap (λ (t : BuiltTree). t.trees) tree_is)

    pub made_listed : records_text after.nodes b.nodes b.capacity after.trees b.trees ≡ listing_of e
    made_listed =
        let t = built_of e 1 (tree_of e 1) in
        ap (λ (t : BuiltTree). records_text after.nodes t.nodes t.capacity after.trees t.trees) tree_is
        ∙ ap₂ (λ (ns ts : List ℕ). records_text ns t.nodes t.capacity ts t.trees) m.nodes_are m.trees_are
        ∙ records_listed e m.few before.nodes before.trees
