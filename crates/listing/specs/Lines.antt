-- The lines of the listing. Definitions only.
use Rattle.std.specs.Prelude.{ℕ, zero, suc, ◌*◌, List, [], ◌∷◌, ◌++◌, ℤ}
use Rattle.records.specs.declared.BoundVertex.{BoundVertex}
use Rattle.records.specs.declared.BvhNode.{BvhNode}
use Rattle.records.specs.declared.BvhTree.{BvhTree}
use Rattle.records.specs.Records.{node_at, tree_at}
use Rattle.listing.specs.Text.{decimal, field}

-- "node " and "tree "
abbrev pub node_word : List ℕ
node_word = 110 ∷ 111 ∷ 100 ∷ 101 ∷ 32 ∷ []

abbrev pub tree_word : List ℕ
tree_word = 116 ∷ 114 ∷ 101 ∷ 101 ∷ 32 ∷ []

-- "nodes " and "refused "
abbrev pub nodes_word : List ℕ
nodes_word = 110 ∷ 111 ∷ 100 ∷ 101 ∷ 115 ∷ 32 ∷ []

abbrev pub refused_word : List ℕ
refused_word = 114 ∷ 101 ∷ 102 ∷ 117 ∷ 115 ∷ 101 ∷ 100 ∷ 32 ∷ []

unfoldable pub vertex_fields : BoundVertex → List ℕ
vertex_fields v = field v.0 ++ field v.1 ++ field v.2

-- Rule L3: what the record is, its number, its box, min then max, and its two numbers.
unfoldable pub record_line : List ℕ → ℕ → BoundVertex → BoundVertex → ℤ → ℤ → List ℕ
record_line word number min max one two =
    word ++ decimal number ++ vertex_fields min ++ vertex_fields max ++ field one ++ field two ++ (10 ∷ [])

-- Rule L4 (01: node number, box, id, count).
unfoldable pub node_line : ℕ → BvhNode → List ℕ
node_line number n = record_line node_word number n.min n.max n.item_id n.item_count

-- Rule L5 (01: tree number, box, first, last).
unfoldable pub tree_line : ℕ → BvhTree → List ℕ
tree_line number t = record_line tree_word number t.min t.max t.node_index1 t.node_index2

-- the first n lines, of which `line` gives each
abbrev pub lines : (ℕ → List ℕ) → ℕ → List ℕ
lines line zero = []
lines line (suc n) = lines line n ++ line n

-- the lines of the first n node records, and of the first n tree records, that stand in some bytes
unfoldable pub node_lines : List ℕ → ℕ → List ℕ
node_lines bytes n = lines (λ i. node_line i (node_at bytes (16 * i))) n

unfoldable pub tree_lines : List ℕ → ℕ → List ℕ
tree_lines bytes n = lines (λ i. tree_line i (tree_at bytes (16 * i))) n

-- Rule L6 (01: prints count and capacity).
unfoldable pub counts_line : ℕ → ℕ → List ℕ
counts_line count capacity = nodes_word ++ decimal count ++ (32 ∷ []) ++ decimal capacity ++ (10 ∷ [])

-- the lines of `count` nodes and `parts` trees, after the line of count and capacity
unfoldable pub records_text : List ℕ → ℕ → ℕ → List ℕ → ℕ → List ℕ
records_text nodes count capacity trees parts = counts_line count capacity ++ node_lines nodes count ++ tree_lines trees parts

-- Rule L7 (01, Program `boxes`: it prints `refused` and the number).
unfoldable pub refused_line : ℕ → List ℕ
refused_line number = refused_word ++ decimal number ++ (10 ∷ [])
