-- What `boxes` prints for its input. Definitions only.
use Rattle.std.specs.Prelude.{◌≡◌, ℕ, ◌+◌, ◌*◌, ◌/◌, ◌%◌, cond, not, List, [], ◌∷◌, ◌++◌, map, length, ◌==◌, nat_lt}
use Rattle.base.specs.Lists.{up_from, over}
use Rattle.io.specs.Counts.{IsPrefixLen}
use Rattle.records.specs.declared.BvhNode.{BvhNode}
use Rattle.records.specs.declared.BvhTree.{BvhTree}
use Rattle.bvh.specs.Build.{Entries, tree_of, scale_in}
use Rattle.rows.specs.Output.{node_of, tree_record, capacity_of}
use Rattle.rows.specs.Ranges.{ranges, range_limit}
use Rattle.rows.specs.Rows.{rows}
use Rattle.rows.specs.Tree.{Node, leaf_order, size}
use Rattle.listing.specs.Lines.{node_line, tree_line, counts_line, refused_line}
use Rattle.listing.specs.Reading.{child_box}

-- Rule L9 (01: all present): the child boxes of an input of whole records.
unfoldable pub children_of : List ℕ → Entries
children_of input =
    record { number = length input / 32; at = λ p. child_box input (32 * p); places = up_from 0 (length input / 32) }

-- Rules R10 and R11: the node records of a tree at threshold 1, in preorder, without the padding.
unfoldable pub nodes_of : Node → List BvhNode
nodes_of t = map (node_of (scale_in t) 1 (leaf_order t)) (rows 0 t)

-- Rule R14: its tree records.
unfoldable pub trees_of : Node → List BvhTree
trees_of t = map (tree_record (scale_in t)) (ranges range_limit 0 t)

-- the lines of some records, numbered from k on
abbrev pub numbered : {A : Type 0} → (ℕ → A → List ℕ) → ℕ → List A → List ℕ
numbered line k [] = []
numbered line k (x ∷ xs) = line k x ++ numbered line (k + 1) xs

-- Rule L10 (01: prints count and capacity, then node number .., then tree number ..).
unfoldable pub listing_of : Entries → List ℕ
listing_of e =
    let t = tree_of e 1 in
    counts_line (size t) (capacity_of 1 e.number (size t)) ++ numbered node_line 0 (nodes_of t) ++ numbered tree_line 0 (trees_of t)

-- Rule L11 (01, Program `boxes`. 1: over 8,192 bytes; 13: length not a multiple of 32), the checks in this order.
unfoldable pub boxes_text : List ℕ → List ℕ
boxes_text input =
    cond (nat_lt 8192 (length input)) (refused_line 1)
    (cond (not (length input % 32 == 0)) (refused_line 13)
    (listing_of (children_of input)))

-- The text stands at the start of the buffer, which is else unchanged, and r says how many bytes it has.
pub record Listed (input before after : List ℕ) (r : ℕ) : Type 0 where
  pub text : after ≡ over (boxes_text input) before
  pub count : r ≡ length (boxes_text input)
  pub inside : IsPrefixLen r after
