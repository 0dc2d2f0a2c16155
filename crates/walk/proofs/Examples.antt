-- Walks over records written by hand, by computing the definitions: an inner node over two leaves, in one range that starts at node 1.
use Rattle.std.specs.Prelude.{◌≡◌, ℕ, List, [], ◌∷◌, ◌++◌, ℤ, pos, negsuc}
use mathlib.Core.Path.{refl}
use Rattle.base.specs.LittleEndian.{little_endian, le_at}
use Rattle.records.specs.Shorts.{short_bytes, short_at}
use Rattle.records.specs.Records.{vertex_bytes, boxed_bytes, node_bytes, tree_bytes}
use Rattle.records.specs.declared.BoundVertex.{BoundVertex}
use Rattle.records.specs.declared.BvhNode.{BvhNode}
use Rattle.records.specs.declared.BvhTree.{BvhTree}
use Rattle.walk_steps.specs.Boxes.{meets}
use Rattle.walk_steps.specs.Refusals.{bad_range, bad_node}
use Rattle.walk_steps.specs.Step.{lent_of, started, at_tree, at_node, handing, step_of}
use Rattle.walk.specs.Walks.{read_on, range_nodes, walk_from, ended, Outcome}
use Rattle.walk_steps.specs.declared.boxes.Query.{Query}

abbrev cube : ℤ → BoundVertex
cube x = record { 0 = x; 1 = x; 2 = x }

abbrev query : ℤ → ℤ → Query
query a b = record { min = cube a; max = cube b }

abbrev node : ℤ → ℤ → ℤ → ℤ → BvhNode
node a b id count = record { min = cube a; max = cube b; item_id = id; item_count = count }

abbrev tree : ℤ → ℤ → ℤ → ℤ → BvhTree
tree a b first last = record { min = cube a; max = cube b; node_index1 = first; node_index2 = last }

-- Node 0 is in no range. Node 1 has 3 nodes; node 2 holds position 0, node 3 positions 1 and 2.
abbrev nodes : List ℕ
nodes =
    node_bytes (node (negsuc 9) (pos 10) (pos 4) (pos 0))
    ++ node_bytes (node (negsuc 9) (pos 10) (pos 3) (pos 0))
    ++ node_bytes (node (negsuc 9) (pos 0) (pos 0) (pos 1))
    ++ node_bytes (node (pos 5) (pos 10) (pos 1) (pos 2))

-- over some trees, with 3 items
abbrev over : Query → ℕ → List ℕ → Outcome
over q n trees = ended (walk_from (lent_of q (record { nodes = 4; trees = n; items = 3 }) nodes trees) started)

abbrev range : List ℕ
range = tree_bytes (tree (negsuc 9) (pos 10) (pos 1) (pos 4))

abbrev outcome : ℕ → ℕ → ℕ → List ℕ → Outcome
outcome number reads handed given = record { number = number; counts = record { reads = reads; handed = handed }; given = given }

-- The query touches the second leaf alone: the tree and three nodes are read.
pub one_leaf : over (query (pos 10) (pos 12)) 1 range ≡ outcome 0 4 2 (1 ∷ 2 ∷ [])
unfolding node_bytes tree_bytes boxed_bytes vertex_bytes short_bytes little_endian short_at le_at meets bad_range bad_node
    at_tree at_node handing step_of read_on range_nodes walk_from
one_leaf = refl

-- It misses the tree.
pub no_tree : over (query (pos 11) (pos 12)) 1 range ≡ outcome 0 1 0 []
unfolding node_bytes tree_bytes boxed_bytes vertex_bytes short_bytes little_endian short_at le_at meets bad_range bad_node
    at_tree at_node handing step_of read_on range_nodes walk_from
no_tree = refl

-- It meets a tree whose only node with nodes below it misses: those are passed.
pub passed : over (query (pos 11) (pos 12)) 1 (tree_bytes (tree (negsuc 9) (pos 99) (pos 1) (pos 4))) ≡ outcome 0 2 0 []
unfolding node_bytes tree_bytes boxed_bytes vertex_bytes short_bytes little_endian short_at le_at meets bad_range bad_node
    at_tree at_node handing step_of read_on range_nodes walk_from
passed = refl

-- 9: the range ends past the nodes.
pub range_refused : over (query (pos 0) (pos 0)) 1 (tree_bytes (tree (pos 0) (pos 0) (pos 1) (pos 5))) ≡ outcome 9 1 0 []
unfolding node_bytes tree_bytes boxed_bytes vertex_bytes short_bytes little_endian short_at le_at meets bad_range bad_node
    at_tree at_node handing step_of read_on range_nodes walk_from
range_refused = refl

-- 10: node 1 has 3 nodes, the range 2.
pub node_refused : over (query (pos 0) (pos 0)) 1 (tree_bytes (tree (pos 0) (pos 0) (pos 1) (pos 3))) ≡ outcome 10 2 0 []
unfolding node_bytes tree_bytes boxed_bytes vertex_bytes short_bytes little_endian short_at le_at meets bad_range bad_node
    at_tree at_node handing step_of read_on range_nodes walk_from
node_refused = refl

-- 11: the second tree has the same range.
pub all_handed_out : over (query (negsuc 9) (pos 9)) 2 (range ++ range) ≡ outcome 11 7 3 (0 ∷ 1 ∷ 2 ∷ [])
unfolding node_bytes tree_bytes boxed_bytes vertex_bytes short_bytes little_endian short_at le_at meets bad_range bad_node
    at_tree at_node handing step_of read_on range_nodes walk_from
all_handed_out = refl
