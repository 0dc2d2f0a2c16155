-- Laws of any tree: how many nodes it has, and how many items a leaf. By induction over the tree.
use Prim.Native.Nat.{ℕ, ◌+◌, ◌*◌, ◌≤◌, ◌<◌}
use native.Mathlib.Omega.{arith}
use mathlib.Core.Path.{◌≡◌, refl}
use lib.ListN.{length, length-append}
use Rattle.rows.specs.Steps.Flat.{Full}
use Rattle.rows.specs.Rows.{rows}
use Rattle.rows.specs.Tree.{Node, leaf, inner, leaf_order, size}

-- no leaf has more than th
abbrev pub AtMost : ℕ → Node → Type 0
AtMost th (leaf b ps) = length ps ≤ th
AtMost th (inner b l r) = AtMost th l × AtMost th r

-- of full leaves there are at most as many as items
pub full_most : (t : Node) → Full t → size t < 2 * length (leaf_order t)
full_most (leaf b ps) f = omega arith
full_most (inner b l r) f = omega (arith, length-append (leaf_order l) (leaf_order r), full_most l f.0, full_most r f.1)

-- a row a node
pub length_rows : (lo : ℕ) (t : Node) → length (rows lo t) ≡ size t
length_rows lo (leaf b ps) = refl
length_rows lo (inner b l r) =
    omega (arith, length-append (rows lo l) (rows (lo + length (leaf_order l)) r), length_rows lo l, length_rows (lo + length (leaf_order l)) r)
