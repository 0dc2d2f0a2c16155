-- What a build wrote is what the walk reads: the record at a number is that of the row, or of the range, with that number.
use Rattle.std.specs.Prelude.{◌≡◌, ℕ, ◌*◌, ◌<◌, List, ◌∷◌, ◌++◌, take, drop, pos}
use mathlib.Core.List.{append_assoc}
use mathlib.Core.Path.{ap, ◌∙◌}
use mir.Syntax.{w16}
use mir.Val.{SFits}
use Rattle.records.specs.declared.scale.Scale.{Scale}
use Rattle.records.specs.Records.{node_bytes, tree_bytes, node_at, tree_at, NodeFits, TreeFits}
use Rattle.records.proofs.Fitting.{quantise_fits}
use Rattle.records.proofs.ReadBack.{node_back, tree_back}
use Rattle.base.proofs.StoreLaws.{cut_at}
use Rattle.rows.specs.Steps.Decode.{Small}
use Rattle.rows.specs.Output.{node_of, nodes_bytes, tree_record, trees_bytes}
use Rattle.rows.specs.Ranges.{Range}
use Rattle.rows.specs.Rows.{Row}
use Rattle.rows.proofs.EmitLaws.{length_nodes, nodes_append}
use Rattle.rows.proofs.FlatLaws.{length_trees, trees_append}

pub small_signed : (n : ℕ) → n < 32768 → SFits w16 (pos n)
small_signed n h = record { sfits = h }

pub node_fits : (s : Scale) (th : ℕ) (order : List ℕ) (r : Row) → Small th order r → NodeFits (node_of s th order r)
unfolding node_of
node_fits s th order r small =
    record {
      low = quantise_fits r.box.min s.cen s.inverse;
      high = quantise_fits r.box.max s.cen s.inverse;
      one = small_signed _ small.id;
      two = small_signed _ small.items;
    }

pub tree_fits : (s : Scale) (r : Range) → r.first < 32768 → r.last < 32768 → TreeFits (tree_record s r)
unfolding tree_record
tree_fits s r h k =
    record {
      low = quantise_fits r.box.min s.cen s.inverse;
      high = quantise_fits r.box.max s.cen s.inverse;
      one = small_signed _ h;
      two = small_signed _ k;
    }

pub node_read : (s : Scale) (th : ℕ) (order rest : List ℕ) (rs : List Row) (k : ℕ) (r : Row) (qs : List Row) → drop k rs ≡ r ∷ qs → Small th order r
    → node_at (nodes_bytes s th order rs ++ rest) (16 * k) ≡ node_of s th order r
node_read s th order rest rs k r qs e small =
    let c = cut_at rs k r qs e in
    let before = nodes_bytes s th order (take k rs) in
    let bytes : nodes_bytes s th order rs ++ rest ≡ before ++ (node_bytes (node_of s th order r) ++ (nodes_bytes s th order qs ++ rest)) =
    ap (λ (l : List Row). nodes_bytes s th order l ++ rest) c.0
    ∙ ap (λ (l : List ℕ). l ++ rest) (nodes_append s th order (take k rs) (r ∷ qs))
    ∙ append_assoc before (nodes_bytes s th order (r ∷ qs)) rest
    ∙ ap (λ (l : List ℕ). before ++ l) (append_assoc (node_bytes (node_of s th order r)) (nodes_bytes s th order qs) rest) in
    ap (λ (l : List ℕ). node_at l (16 * k)) bytes
    ∙ node_back before (nodes_bytes s th order qs ++ rest) (16 * k) (node_of s th order r)
    (length_nodes s th order (take k rs) ∙ ap (λ (n : ℕ). 16 * n) c.1) (node_fits s th order r small)

pub tree_read : (s : Scale) (rest : List ℕ) (rs : List Range) (k : ℕ) (r : Range) (qs : List Range) → drop k rs ≡ r ∷ qs → r.first < 32768 → r.last < 32768
    → tree_at (trees_bytes s rs ++ rest) (16 * k) ≡ tree_record s r
tree_read s rest rs k r qs e h₁ h₂ =
    let c = cut_at rs k r qs e in
    let before = trees_bytes s (take k rs) in
    let bytes : trees_bytes s rs ++ rest ≡ before ++ (tree_bytes (tree_record s r) ++ (trees_bytes s qs ++ rest)) =
    ap (λ (l : List Range). trees_bytes s l ++ rest) c.0
    ∙ ap (λ (l : List ℕ). l ++ rest) (trees_append s (take k rs) (r ∷ qs))
    ∙ append_assoc before (trees_bytes s (r ∷ qs)) rest
    ∙ ap (λ (l : List ℕ). before ++ l) (append_assoc (tree_bytes (tree_record s r)) (trees_bytes s qs) rest) in
    ap (λ (l : List ℕ). tree_at l (16 * k)) bytes
    ∙ tree_back before (trees_bytes s qs ++ rest) (16 * k) (tree_record s r) (length_trees s (take k rs) ∙ ap (λ (n : ℕ). 16 * n) c.1) (tree_fits s r h₁ h₂)
