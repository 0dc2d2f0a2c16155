-- The lines of the records that a build has written are those of its tree's own records.
use Rattle.std.specs.Prelude.{◌≡◌, ℕ, ◌+◌, ◌-◌, ◌<◌, ◌≤◌, List, [], ◌∷◌, ◌++◌, map, length, drop}
use native.Mathlib.Nat.{zero-add}
use native.Mathlib.Omega.{arith}
use mathlib.Core.List.{append_assoc}
use mathlib.Core.Path.{refl, sym, ap, ◌∙◌, subst}
use lib.ListN.{length-map}
use Rattle.base.specs.Lists.{over}
use Rattle.records.specs.declared.scale.Scale.{Scale}
use Rattle.records.specs.Records.{node_bytes, node_at, NodeFits, tree_bytes, tree_at, TreeFits}
use Rattle.records.proofs.Fitting.{quantise_fits}
use Rattle.records.proofs.ReadBack.{node_back, tree_back}
use Rattle.records.proofs.Sizes.{node_bytes_lem, tree_bytes_lem}
use Rattle.bvh.specs.Build.{Entries, tree_of, nodes_written, trees_written, trees_written_by, scale_in}
use Rattle.rows.specs.Steps.Decode.{SmallRows}
use Rattle.rows.specs.Numbers.{RisingRanges}
use Rattle.rows.specs.Output.{node_of, nodes_bytes, pad_bytes, capacity_of, tree_record, trees_bytes}
use Rattle.rows.specs.Ranges.{Range, ranges, range_limit}
use Rattle.rows.specs.Output.{node_of, nodes_bytes, pad_bytes, capacity_of, tree_record, trees_bytes}
use Rattle.rows.specs.Rows.{Row, rows}
use Rattle.rows.specs.Tree.{leaf_order, size}
use Rattle.rows.proofs.RangeLaws.{ranges_rise, rising_ends}
use Rattle.rows.proofs.TreeLaws.{length_rows}
use Rattle.listing.specs.Lines.{node_line, tree_line, node_lines, tree_lines}
use Rattle.listing.specs.Listing.{nodes_of, trees_of, numbered}
use Rattle.listing.proofs.Numbered.{joined, Each, reads_back, lines_numbered}

-- ---- nodes

joined_nodes : (s : Scale) (order : List ℕ) (rs : List Row) → joined node_bytes (map (node_of s 1 order) rs) ≡ nodes_bytes s 1 order rs
joined_nodes s order [] = refl
joined_nodes s order (r ∷ rs) = ap (λ (l : List ℕ). node_bytes (node_of s 1 order r) ++ l) (joined_nodes s order rs)

nodes_fit : (s : Scale) (order : List ℕ) (rs : List Row) → SmallRows 1 order rs → Each NodeFits (map (node_of s 1 order) rs)
unfolding node_of
nodes_fit s order [] h = tt
nodes_fit s order (r ∷ rs) h = (
  record {
    low = quantise_fits r.box.min s.cen s.inverse;
    high = quantise_fits r.box.max s.cen s.inverse;
    one = record { sfits = h.0.id };
    two = record { sfits = h.0.items };
  },
  nodes_fit s order rs h.1,
)

pub node_lines_lem : (e : Entries) (before : List ℕ) → SmallRows 1 (leaf_order (tree_of e 1)) (rows 0 (tree_of e 1))
    → node_lines (over (nodes_written e 1) before) (size (tree_of e 1)) ≡ numbered node_line 0 (nodes_of (tree_of e 1))
unfolding node_lines nodes_of nodes_written tree_of
node_lines_lem e before small =
    let t = tree_of e 1 in
    let ns = map (node_of (scale_in t) 1 (leaf_order t)) (rows 0 t) in
    let pad = pad_bytes (capacity_of 1 e.number (size t) - size t) in
    let rest = pad ++ drop (length (nodes_written e 1)) before in
    let bytes : joined node_bytes ns ++ rest ≡ over (nodes_written e 1) before =
    ap (λ (l : List ℕ). l ++ rest) (joined_nodes (scale_in t) (leaf_order t) (rows 0 t))
    ∙ sym (append_assoc (nodes_bytes (scale_in t) 1 (leaf_order t) (rows 0 t)) pad (drop (length (nodes_written e 1)) before)) in
    let count : 0 + length ns ≡ size t = zero-add (length ns) ∙ length-map (rows 0 t) (node_of (scale_in t) 1 (leaf_order t)) ∙ length_rows 0 t in
    let fit = nodes_fit (scale_in t) (leaf_order t) (rows 0 t) small in
    let read = reads_back node_bytes node_at NodeFits (λ n. (node_bytes_lem n).size) node_back [] rest 0 ns refl fit in
    subst (λ (l : List ℕ). node_lines l (size t) ≡ numbered node_line 0 ns) bytes
    (ap (node_lines (joined node_bytes ns ++ rest)) (sym count) ∙ lines_numbered node_at node_line (joined node_bytes ns ++ rest) 0 ns read)

-- ---- trees

joined_trees : (s : Scale) (rs : List Range) → joined tree_bytes (map (tree_record s) rs) ≡ trees_bytes s rs
joined_trees s [] = refl
joined_trees s (r ∷ rs) = ap (λ (l : List ℕ). tree_bytes (tree_record s r) ++ l) (joined_trees s rs)

trees_fit : (s : Scale) (lo hi : ℕ) (rs : List Range) → hi < 32768 → RisingRanges lo rs hi → Each TreeFits (map (tree_record s) rs)
unfolding tree_record
trees_fit s lo hi [] few h = tt
trees_fit s lo hi (r ∷ rs) few h =
    let last : r.last ≤ hi = rising_ends r.last hi rs h.2 in (
      record {
        low = quantise_fits r.box.min s.cen s.inverse;
        high = quantise_fits r.box.max s.cen s.inverse;
        one = record { sfits = omega (arith, h.1) };
        two = record { sfits = omega arith };
      },
      trees_fit s r.last hi rs few h.2,
    )

pub tree_lines_lem : (e : Entries) (before : List ℕ) → size (tree_of e 1) < 32768
    → tree_lines (over (trees_written e 1) before) (length (ranges range_limit 0 (tree_of e 1))) ≡ numbered tree_line 0 (trees_of (tree_of e 1))
unfolding tree_lines trees_of trees_written_by tree_of
tree_lines_lem e before few =
    let t = tree_of e 1 in
    let ts = map (tree_record (scale_in t)) (ranges range_limit 0 t) in
    let rest = drop (length (trees_written e 1)) before in
    let bytes : joined tree_bytes ts ++ rest ≡ over (trees_written e 1) before = ap (λ (l : List ℕ). l ++ rest)
    (joined_trees (scale_in t) (ranges range_limit 0 t)) in
    let count : 0 + length ts ≡ length (ranges range_limit 0 t) = zero-add (length ts) ∙ length-map (ranges range_limit 0 t) (tree_record (scale_in t)) in
    let fit = trees_fit (scale_in t) 0 (0 + size t) (ranges range_limit 0 t) (omega arith) (ranges_rise range_limit (omega arith) 0 t) in
    let read = reads_back tree_bytes tree_at TreeFits (λ r. (tree_bytes_lem r).size) tree_back [] rest 0 ts refl fit in
    subst (λ (l : List ℕ). tree_lines l (length (ranges range_limit 0 t)) ≡ numbered tree_line 0 ts) bytes
    (ap (tree_lines (joined tree_bytes ts ++ rest)) (sym count) ∙ lines_numbered tree_at tree_line (joined tree_bytes ts ++ rest) 0 ts read)
