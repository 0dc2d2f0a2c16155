-- Reading after writing is the identity, for nodes and trees by one lemma over what they have in common. Assumes nothing.
use mathlib.Core.Path.{◌≡◌, sym, ap, ◌∙◌}
use mathlib.Core.List.{List, [], ◌++◌}
use Prim.Native.Nat.{ℕ, ◌+◌}
use native.Mathlib.Nat.{add_assoc, add-zero}
use native.Mathlib.Omega.{arith}
use lib.IntN.{ℤ, pos, negsuc}
use lib.ListN.{length}
use mir.Syntax.{w16}
use mir.Val.{SFits}
use lib.Dec.{le→leb}
use Rattle.float32.specs.Casts.{low16bits, signed16, low16}
use Rattle.float32.proofs.Low16.{low_lt, low16_self}
use Rattle.base.specs.LittleEndian.{little_endian, le_at}
use Rattle.base.proofs.LittleEndian.{le_after, le_back}
use Rattle.records.specs.Shorts.{short_bytes, short_at}
use Rattle.records.specs.Records.{vertex_bytes, vertex_at, boxed_bytes, node_bytes, node_at, tree_bytes, tree_at, BoxedFits, NodeFits, TreeFits}
use Rattle.records.specs.declared.BoundVertex.{BoundVertex}
use Rattle.records.specs.declared.BvhNode.{BvhNode}
use Rattle.records.specs.declared.BvhTree.{BvhTree}

-- The low 16 bits of an i16 stand for it.
signed_low : (v : ℤ) → SFits w16 v → low16 v ≡ v
signed_low (pos n) h = low16_self (pos n) tt (omega (arith, h.sfits, le→leb))
signed_low (negsuc n) h = low16_self (negsuc n) (omega (arith, h.sfits, le→leb)) tt

-- So do its two bytes.
short_back : (v : ℤ) (rest : List ℕ) → SFits w16 v → short_at (short_bytes v ++ rest) 0 ≡ v
unfolding short_bytes short_at
short_back v rest h = ap signed16 (le_back 2 (low16bits v) rest (low_lt v)) ∙ signed_low v h

-- What stands after p is read as if it stood alone.
short_after_lem : (p q : List ℕ) (at j : ℕ) → length p ≡ at → short_at (p ++ q) (at + j) ≡ short_at q j
unfolding short_at
short_after_lem p q at j e = ap signed16 (le_after 2 p q at j e)

vertex_after : (p q : List ℕ) (at j : ℕ) → length p ≡ at → vertex_at (p ++ q) (at + j) ≡ vertex_at q j
vertex_after p q at j e =
    let x = short_after_lem p q at j e in
    let y = ap (short_at (p ++ q)) (add_assoc at j 2) ∙ short_after_lem p q at (j + 2) e in
    let z = ap (short_at (p ++ q)) (add_assoc at j 4) ∙ short_after_lem p q at (j + 4) e in
    cc

-- What is read at `at` of a box and two numbers.
record Reads (bytes : List ℕ) (at : ℕ) (min max : BoundVertex) (first second : ℤ) : Type 0 where
  pub low : vertex_at bytes at ≡ min
  pub high : vertex_at bytes (at + 6) ≡ max
  pub one : short_at bytes (at + 12) ≡ first
  pub two : short_at bytes (at + 14) ≡ second

vertex_back : (x y z : ℤ) (v : BoundVertex) → x ≡ v.0 → y ≡ v.1 → z ≡ v.2 → ◌≡◌ {A = BoundVertex} (record { 0 = x; 1 = y; 2 = z }) v
vertex_back x y z v ex ey ez = λ i. record { 0 = ex i; 1 = ey i; 2 = ez i }

boxed_alone : (rest : List ℕ) (min max : BoundVertex) (first second : ℤ) → BoxedFits min max first second
    → Reads (boxed_bytes min max first second ++ rest) 0 min max first second
unfolding boxed_bytes vertex_bytes short_bytes little_endian short_at le_at
boxed_alone rest min max first second f =
    record {
      low = vertex_back _ _ _ min (short_back min.0 [] f.low.0) (short_back min.1 [] f.low.1) (short_back min.2 [] f.low.2);
      high = vertex_back _ _ _ max (short_back max.0 [] f.high.0) (short_back max.1 [] f.high.1) (short_back max.2 [] f.high.2);
      one = short_back first [] f.one;
      two = short_back second [] f.two;
    }

boxed_back : (p rest : List ℕ) (at : ℕ) (min max : BoundVertex) (first second : ℤ) → length p ≡ at → BoxedFits min max first second
    → Reads (p ++ (boxed_bytes min max first second ++ rest)) at min max first second
boxed_back p rest at min max first second e f =
    let q = boxed_bytes min max first second ++ rest in
    let r = boxed_alone rest min max first second f in
    record {
      low = ap (vertex_at (p ++ q)) (sym (add-zero at)) ∙ vertex_after p q at 0 e ∙ r.low;
      high = vertex_after p q at 6 e ∙ r.high;
      one = short_after_lem p q at 12 e ∙ r.one;
      two = short_after_lem p q at 14 e ∙ r.two;
    }

-- A node that was written is read back.
pub node_back : (p rest : List ℕ) (at : ℕ) (n : BvhNode) → length p ≡ at → NodeFits n → node_at (p ++ (node_bytes n ++ rest)) at ≡ n
unfolding node_bytes
node_back p rest at n e f =
    let r = boxed_back p rest at n.min n.max n.item_id n.item_count e f in
    λ i. record { min = r.low i; max = r.high i; item_id = r.one i; item_count = r.two i }

pub tree_back : (p rest : List ℕ) (at : ℕ) (t : BvhTree) → length p ≡ at → TreeFits t → tree_at (p ++ (tree_bytes t ++ rest)) at ≡ t
unfolding tree_bytes
tree_back p rest at t e f =
    let r = boxed_back p rest at t.min t.max t.node_index1 t.node_index2 e f in
    λ i. record { min = r.low i; max = r.high i; node_index1 = r.one i; node_index2 = r.two i }
