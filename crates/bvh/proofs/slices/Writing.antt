-- What the outputs hold once a planted tree is written: the table's rows are the tree's, so the bytes are those of the definition.
use Rattle.std.specs.Prelude.{◌≡◌, ℕ, ◌+◌, ◌-◌, ◌*◌, ◌<◌, ◌≤◌, List, [], ◌++◌, length, take, drop}
use native.Mathlib.Nat.{sub_self}
use native.Mathlib.Omega.{arith}
use mathlib.Core.List.{append-nil}
use mathlib.Core.Path.{refl, sym, ap, ◌∙◌, subst}
use borrow.Author.Tests.{eq-eqb, ne_eqb}
use lib.Seq.{sets, length-take-le}
use Rattle.base.proofs.StoreLaws.{over_next}
use Rattle.base.proofs.NumberLaws.{below_wider}
use Rattle.base.proofs.WithinLaws.{below_within, within_below}
use Rattle.base.specs.Lists.{Within, over, Below}
use Rattle.records.specs.declared.scale.Scale.{Scale}
use Rattle.records.specs.Scale.{scale_of_box}
use Rattle.entries.specs.Boxes.{box_at}
use Rattle.entries.specs.declared.boxes.BoxWords.{BoxWords}
use Rattle.bvh.specs.declared.slices.Planted.{Planted}
use Rattle.bvh.specs.declared.slices.Task.{Task}
use Rattle.bvh.specs.Build.{scale_in, tree_of, nodes_written, trees_written_by, order_written}
use Rattle.bvh.specs.Entry.{Outputs, entries_in}
use Rattle.bvh.specs.Items.{marked}
use Rattle.rows.specs.Output.{nodes_bytes, pad_bytes, capacity_of, trees_bytes, order_of}
use Rattle.rows.specs.Ranges.{ranges}
use Rattle.rows.specs.Rows.{rows}
use Rattle.rows.specs.Tree.{Node, leaf, inner, box_of, leaf_order, size}
use Rattle.growth.specs.Grow.{Builder, builder, grow}
use Rattle.bvh.specs.Steps.Core.{NodesWritten, OrderFits, Writable, Written}
use Rattle.rows.specs.Steps.Decode.{RowsFit, SmallRows}
use Rattle.rows.specs.Steps.Flat.{Filled, Flat, Scannable, TreesPut}
use Rattle.rows.specs.Steps.Table.{table_of, row_at, rows_in}
use Rattle.rows.proofs.EmitLaws.{length_nodes, length_pad}
use Rattle.growth.proofs.GrowLaws.{grow_filled, grown_flat, grown_scannable}
use Rattle.growth.proofs.Lawful.{Lawful, lawful}
use Rattle.rows.proofs.SmallLaws.{small_rows}
use Rattle.rows.proofs.TableLaws.{length_rows_in, table_is, rows_held}
use Rattle.growth.proofs.GrowLaws.{leaf_order_within, grow_full}
use Rattle.rows.proofs.TreeLaws.{length_rows}
use Rattle.bvh.proofs.slices.Planting.{marks_below}

-- ---- the node records and the padding

module _ (s : Scale) (t : Task) (m : ℕ) (order table nodes nodes₁ : List ℕ)
    (put : nodes₁ ≡ over (nodes_bytes s t.threshold order (rows_in m table)) nodes) where
  abbrev bytes : List ℕ
  bytes = nodes_bytes s t.threshold order (rows_in m table)

  pub nodes_padded : (nodes₂ : List ℕ) → t.threshold ≡ 1 → m ≤ 2 * t.n + 1 → 16 * (2 * t.n + 1) ≤ length nodes
      → nodes₂ ≡ sets nodes₁ (16 * m) (pad_bytes (2 * t.n + 1 - m))
      → NodesWritten s t m order table nodes nodes₂ (2 * t.n + 1)
  nodes_padded nodes₂ one h room pad =
      let padding : List ℕ = pad_bytes (2 * t.n + 1 - m) in
      let long : length bytes ≡ 16 * m = length_nodes s t.threshold order (rows_in m table) ∙ ap (λ (k : ℕ). 16 * k) (length_rows_in m table) in
      record {
        capacity_is = rw (eq-eqb t.threshold 1 one);
        bytes_are =
            pad
            ∙ ap (λ (l : List ℕ). sets l (16 * m) padding) put
            ∙ over_next bytes padding nodes (16 * m) long (omega (arith, length_pad (2 * t.n + 1 - m)));
      }

  pub nodes_bare : ¬ (t.threshold ≡ 1) → NodesWritten s t m order table nodes nodes₁ m
  nodes_bare ne =
      let none : pad_bytes (m - m) ≡ [] = ap pad_bytes (sub_self m) in
      record {
        capacity_is = rw (ne_eqb t.threshold 1 ne);
        bytes_are = put ∙ ap (λ (l : List ℕ). over l nodes) (sym (append-nil bytes) ∙ ap (λ (l : List ℕ). bytes ++ l) (sym none));
      }

-- ---- the order list

pub order_rising : (th : ℕ) (places held leaves order order' : List ℕ) → th ≡ 1 → held ≡ places → order' ≡ over held order
    → order' ≡ over (order_of th places leaves) order
order_rising th places held leaves order order' one e put = rw (eq-eqb th 1 one) (put ∙ ap (λ (l : List ℕ). over l order) e)

pub order_leaves : (th : ℕ) (places leaves order order' : List ℕ) → ¬ (th ≡ 1) → order' ≡ over leaves order
    → order' ≡ over (order_of th places leaves) order
order_leaves th places leaves order order' ne put = rw (ne_eqb th 1 ne) put

-- ---- the whole

first_box : (t : Node) (rest : List ℕ) → (row_at (table_of (rows 0 t) ++ rest) 0).box ≡ box_of t
first_box (leaf b ps) rest = refl
first_box (inner b l r) rest = refl

module _ (task : Task) (p : Planted) (entries places temp table : List ℕ) (o : Outputs) (w : Writable task p entries places temp table o) where
  abbrev n : ℕ
  n = task.n

  abbrev th : ℕ
  th = task.threshold

  abbrev marks : List ℕ
  marks = marked 0 n entries

  abbrev by : Builder
  by = builder (box_at entries)

  abbrev t : Node
  t = grow by th marks

  abbrev leaves : List ℕ
  leaves = take p.present places

  law : Lawful by
  law = lawful (box_at entries)

  filled : Filled t
  filled = grow_filled by th marks (grow_full by law th w.threshold marks)

  -- as many rows as nodes, and room for them
  pub nodes_most : p.nodes ≤ 2 * n + 1
  nodes_most = omega (arith, w.planted.grown.most, w.planted.present_is, w.planted.most)

  pub leaves_long : length leaves ≡ p.present
  leaves_long = length-take-le p.present places (omega (arith, w.planted.most, w.places_room))

  many : length (rows 0 t) ≡ p.nodes
  many = length_rows 0 t ∙ sym w.planted.grown.size_is

  rows_are : rows_in p.nodes table ≡ rows 0 t
  rows_are = rows_held (rows 0 t) p.nodes table many w.planted.grown.rows_are

  root_box : (row_at table 0).box ≡ box_of t
  root_box =
      ap (λ (l : List ℕ). (row_at l 0).box) (table_is (rows 0 t) p.nodes table many w.planted.grown.rows_are)
      ∙ first_box t (drop (8 * p.nodes) table)

  -- the leaf order holds places of the list
  leaves_below : (bound : ℕ) → n ≤ bound → Below bound leaves
  leaves_below bound h =
      let marks-within : Within (7 * n) marks = below_within n (7 * n) marks (omega arith) (marks_below n entries) in
      let within : Within (7 * n) (leaf_order t) = leaf_order_within by law th w.threshold (7 * n) marks marks-within in
      subst (Below bound) (sym w.planted.grown.order_is) (below_wider n bound (leaf_order t) h (within_below n (leaf_order t) within))

  small : SmallRows th leaves (rows_in p.nodes table)
  small =
      let ordered : leaf_order t ≡ leaves = sym w.planted.grown.order_is in
      let below : Below 32768 (leaf_order t) = subst (Below 32768) (sym ordered) (leaves_below 32768 (omega (arith, w.few))) in
      let few : length (leaf_order t) < 32768 = omega (arith, ap length ordered, leaves_long, w.planted.most, w.few) in
      let rows_small : SmallRows th (leaf_order t) (rows 0 t) = small_rows th t below few (omega (arith, w.planted.grown.size_is, w.nodes_few)) in
      rw (rows_are, ← ordered) rows_small

  pub rows_fit : RowsFit th p.nodes leaves table o.nodes
  rows_fit =
      record {
        rows_room = omega (arith, nodes_most, w.rows_room);
        nodes_room = omega (arith, nodes_most, w.nodes_room);
        small = small;
      }

  pub order_fits : OrderFits task entries leaves temp o.order
  order_fits =
      record {
        few = w.few;
        entries_room = omega (arith, w.entries_are);
        temp_room = w.temp_room;
        order_room = w.order_room;
        leaves_few = omega (arith, leaves_long, w.planted.most);
        leaves_below = leaves_below 65536 (omega (arith, w.few));
      }

  flat : Flat t p.nodes table
  flat = grown_flat by th marks leaves table p.nodes w.planted.grown filled w.nodes_few

  pub scannable : (limit : ℕ) → 0 < limit → Scannable limit p.nodes table o.trees
  scannable limit some =
      grown_scannable by th marks leaves table p.nodes w.planted.grown filled w.nodes_few limit some o.trees
      (omega (arith, nodes_most, w.trees_room))

  pub written : (all : BoxWords) (s : Scale) (cap parts : ℕ) (o' : Outputs) → all ≡ (row_at table 0).box → s ≡ scale_of_box all.min all.max
      → NodesWritten s task p.nodes leaves table o.nodes o'.nodes cap
      → ((u : Node) → Flat u p.nodes table → TreesPut task.limit s u o.trees o'.trees parts)
      → o'.order ≡ over (order_of th marks leaves) o.order
      → Written task.limit (entries_in n entries) th
      (record { nodes = p.nodes; capacity = cap; trees = parts; present = p.present; min = all.min; max = all.max; scale = s }) o o'
  unfolding entries_in tree_of nodes_written trees_written_by order_written
  written all s cap parts o' ea es wn wt wo =
      let box_is : all ≡ box_of t = ea ∙ root_box in
      let scale-is : s ≡ scale_in t = es ∙ ap (λ (b : BoxWords). scale_of_box b.min b.max) box_is in
      let size_is : p.nodes ≡ size t = w.planted.grown.size_is in
      let cap-is : cap ≡ capacity_of th n (size t) = wn.capacity_is ∙ ap (capacity_of th n) size_is in
      let leaves-are : leaves ≡ leaf_order t = w.planted.grown.order_is in
      let put : TreesPut task.limit s t o.trees o'.trees parts = wt t flat in
      record {
        built = λ i. record {
          nodes = size_is i;
          capacity = cap-is i;
          trees = put.number_is i;
          present = w.planted.present_is i;
          min = (box_is i).min;
          max = (box_is i).max;
          scale = scale-is i;
        };
        nodes_are =
            wn.bytes_are ∙ (λ i. over (nodes_bytes (scale-is i) th (leaves-are i) (rows_are i) ++ pad_bytes (cap-is i - size_is i)) o.nodes);
        trees_are = put.bytes_are ∙ ap (λ (u : Scale). over (trees_bytes u (ranges task.limit 0 t)) o.trees) scale-is;
        order_is = wo ∙ ap (λ (l : List ℕ). over (order_of th marks l) o.order) leaves-are;
      }
