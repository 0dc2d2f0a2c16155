-- What a walk turns down as it reads a record. Definitions only.
use Rattle.std.specs.Prelude.{ℕ, ◌+◌, max, Bool, cond, ◌||◌, ltb, eqb, ℤ, pos, negsuc}
use Rattle.std.specs.Int.Signed.{lt_z}
use Rattle.records.specs.declared.BvhNode.{BvhNode}
use Rattle.records.specs.declared.BvhTree.{BvhTree}

-- A record's number as a number of things. One below 0 is refused before it is read so.
abbrev pub whole : ℤ → ℕ
whole (pos n) = n
whole (negsuc n) = 0

-- Rule W4 (01, Walk, 9: first below 0, last below first, last past nodes).
unfoldable pub bad_range : ℕ → BvhTree → Bool
bad_range nodes t = lt_z t.node_index1 (pos 0) || lt_z t.node_index2 t.node_index1 || ltb nodes (whole t.node_index2)

-- Rule W6 (01, Walk, 10: count negative; id negative; with count 0, at + max(id,1) past last; with count above 0, id + count past items),
-- for the node at a number of a range.
unfoldable pub bad_node : ℕ → ℕ → ℕ → BvhNode → Bool
bad_node at last items n =
    lt_z n.item_count (pos 0) || lt_z n.item_id (pos 0)
    || cond (eqb (whole n.item_count) 0) (ltb last (at + max (whole n.item_id) 1)) (ltb items (whole n.item_id + whole n.item_count))
