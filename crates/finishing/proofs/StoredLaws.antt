-- Stored vertices, written one after the other. Assumes nothing.
use Prim.Native.Nat.{ℕ, ◌+◌, ◌*◌, ◌≤◌}
use native.Mathlib.Numerals.{add-one}
use native.Mathlib.Omega.{arith}
use mathlib.Core.Path.{◌≡◌, sym, ap, ◌∙◌}
use mathlib.Core.List.{List}
use lib.ListN.{length}
use lib.Seq.{sets}
use Rattle.base.specs.Lists.{over}
use Rattle.base.proofs.StoreLaws.{over_next}
use Rattle.corners.specs.Corners.{in_turn}
use Rattle.corners.proofs.CornerLaws.{length_in_turn}
use Rattle.records.specs.declared.BoundVertex.{BoundVertex}
use Rattle.records.specs.Records.{vertex_bytes}
use Rattle.records.proofs.Sizes.{vertex_bytes_lem}

pub length_stored : (at : ℕ → BoundVertex) (v : ℕ) → length (in_turn v (λ i. vertex_bytes (at i))) ≡ 6 * v
length_stored at v = length_in_turn 6 (λ i. vertex_bytes (at i)) v (λ i h. (vertex_bytes_lem (at i)).size)

-- Once i vertices are written over a list, one more.
pub stored_next : (at : ℕ → BoundVertex) (before : List ℕ) (i : ℕ) → 6 * i + 6 ≤ length before
    → sets (over (in_turn i (λ i. vertex_bytes (at i))) before) (6 * i) (vertex_bytes (at i)) ≡ over (in_turn (i + 1) (λ i. vertex_bytes (at i))) before
stored_next at before i h =
    over_next (in_turn i (λ i. vertex_bytes (at i))) (vertex_bytes (at i)) before (6 * i) (length_stored at i) (omega (arith, (vertex_bytes_lem (at i)).size))
    ∙ sym (ap (λ (k : ℕ). over (in_turn k (λ i. vertex_bytes (at i))) before) (add-one i))
