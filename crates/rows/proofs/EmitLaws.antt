-- What is written: how many bytes it has, and its parts one after the other.
use Prim.Native.Nat.{ℕ, zero, suc, ◌+◌, ◌*◌}
use native.Mathlib.Omega.{arith}
use native.Mathlib.Numerals.{add-one}
use mathlib.Core.Path.{◌≡◌, refl, sym, ap, ◌∙◌}
use mathlib.Core.List.{List, [], ◌∷◌, ◌++◌, append_assoc, append-nil}
use lib.ListN.{length, length-append}
use Rattle.records.specs.declared.scale.Scale.{Scale}
use Rattle.records.specs.Records.{node_bytes}
use Rattle.records.proofs.Sizes.{node_bytes_lem}
use Rattle.rows.specs.Rows.{Row}
use Rattle.rows.specs.Output.{node_of, nodes_bytes, pad_node, pad_bytes}

pub length_nodes : (s : Scale) (th : ℕ) (order : List ℕ) (rs : List Row) → length (nodes_bytes s th order rs) ≡ 16 * length rs
length_nodes s th order [] = refl
length_nodes s th order (r ∷ rs) =
    let n = node_of s th order r in
    omega (arith, length-append (node_bytes n) (nodes_bytes s th order rs), (node_bytes_lem n).size, length_nodes s th order rs)

pub nodes_append : (s : Scale) (th : ℕ) (order : List ℕ) (rs qs : List Row)
    → nodes_bytes s th order (rs ++ qs) ≡ nodes_bytes s th order rs ++ nodes_bytes s th order qs
nodes_append s th order [] qs = refl
nodes_append s th order (r ∷ rs) qs =
    ap (λ (bs : List ℕ). node_bytes (node_of s th order r) ++ bs) (nodes_append s th order rs qs)
    ∙ sym (append_assoc (node_bytes (node_of s th order r)) (nodes_bytes s th order rs) (nodes_bytes s th order qs))

pub length_pad : (k : ℕ) → length (pad_bytes k) ≡ 16 * k
length_pad zero = refl
length_pad (suc k) = omega (arith, length-append (node_bytes pad_node) (pad_bytes k), (node_bytes_lem pad_node).size, length_pad k)

pub pad_more : (k : ℕ) → pad_bytes (k + 1) ≡ pad_bytes k ++ node_bytes pad_node
pad_more k = rw add-one (go k)
  where
    go : (k : ℕ) → pad_bytes (suc k) ≡ pad_bytes k ++ node_bytes pad_node
    go zero = append-nil (node_bytes pad_node)
    go (suc k) = ap (λ (bs : List ℕ). node_bytes pad_node ++ bs) (go k) ∙ sym (append_assoc (node_bytes pad_node) (pad_bytes k) (node_bytes pad_node))
