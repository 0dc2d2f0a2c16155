-- The tree that grows from a list of places. Definitions only.
use Rattle.std.specs.Prelude.{ℕ, zero, suc, true, false, List, leb, length}
use Rattle.entries.specs.declared.boxes.BoxWords.{BoxWords}
use Rattle.entries.specs.Folding.{fold_box}
use Rattle.split.specs.Rule.{first_group_of, second_of}
use Rattle.rows.specs.Tree.{Node, leaf, inner}

-- What a tree is built by: the box of some items, and the two groups that they are split into.
pub record Builder : Type 0 where
  pub box : List ℕ → BoxWords
  pub first : List ℕ → List ℕ
  pub second : List ℕ → List ℕ

-- A node of at most `th` items is a leaf, else its groups' trees are its children. The box is folded from the items as the node got them.
-- Each group is shorter than its list, so as many levels as items are enough.
unfoldable pub grow_f : Builder → ℕ → ℕ → List ℕ → Node
grow_f b th zero ps = leaf (b.box ps) ps
grow_f b th (suc k) ps =
    elim (leb (length ps) th) [
      | true ↦ leaf (b.box ps) ps
      | false ↦ inner (b.box ps) (grow_f b th k (b.first ps)) (grow_f b th k (b.second ps))
    ]

-- Rule T8 (01, Tree build; bvh.rs, Node::build).
unfoldable pub grow : Builder → ℕ → List ℕ → Node
unfolding grow_f
grow b th ps = grow_f b th (length ps) ps

-- Rules T1 and T4 to T7: the source's builder over the boxes that `at` gives.
abbrev pub builder : (ℕ → BoxWords) → Builder
builder at = record { box = fold_box at; first = first_group_of at; second = second_of at }
