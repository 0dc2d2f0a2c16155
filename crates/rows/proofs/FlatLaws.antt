-- What a caller of `ranges::put_trees` shows and gets: a tree of full leaves is filled, and the ranges' records have 16 bytes each.
use Prim.Native.Nat.{ℕ, ◌*◌}
use native.Mathlib.Omega.{arith}
use mathlib.Core.List.{List, [], ◌∷◌, ◌++◌, append_assoc}
use mathlib.Core.Path.{◌≡◌, refl, sym, ap, ◌∙◌}
use lib.ListN.{length, length-append}
use Rattle.records.specs.declared.scale.Scale.{Scale}
use Rattle.records.specs.Records.{tree_bytes}
use Rattle.records.proofs.Sizes.{tree_bytes_lem}
use Rattle.rows.specs.Tree.{Node, leaf, inner}
use Rattle.rows.specs.Ranges.{Range}
use Rattle.rows.specs.Output.{tree_record, trees_bytes}
use Rattle.rows.specs.Steps.Flat.{Full, Filled}

pub length_trees : (s : Scale) (rs : List Range) → length (trees_bytes s rs) ≡ 16 * length rs
length_trees s [] = refl
length_trees s (r ∷ rs) =
    omega (arith, length-append (tree_bytes (tree_record s r)) (trees_bytes s rs), (tree_bytes_lem (tree_record s r)).size, length_trees s rs)

pub trees_append : (s : Scale) (xs ys : List Range) → trees_bytes s (xs ++ ys) ≡ trees_bytes s xs ++ trees_bytes s ys
trees_append s [] ys = refl
trees_append s (x ∷ xs) ys =
    ap (λ (l : List ℕ). tree_bytes (tree_record s x) ++ l) (trees_append s xs ys)
    ∙ sym (append_assoc (tree_bytes (tree_record s x)) (trees_bytes s xs) (trees_bytes s ys))

-- ---- the tree

pub full_filled : (t : Node) → Full t → Filled t
full_filled (leaf b ps) h = tt
full_filled (inner b l r) h = h
