-- The walk over a tree, by recursion: what the machine over its records comes to. Definitions only.
use Rattle.std.specs.Prelude.{◌≡◌, ℕ, ◌+◌, ◌<◌, ◌≤◌, Bool, true, cond, List, [], ◌∷◌, ◌++◌, length}
use mathlib.Core.List.{Memᴰ}
use Rattle.base.specs.Lists.{occurrences, up_from}
use Rattle.math.specs.declared.aabb.Aabb.{Aabb}
use Rattle.records.specs.Quantise.{quantise_of}
use Rattle.records.specs.declared.scale.Scale.{Scale}
use Rattle.entries.specs.declared.boxes.BoxWords.{BoxWords}
use Rattle.rows.specs.Output.{id_of}
use Rattle.rows.specs.Ranges.{Subtree}
use Rattle.rows.specs.Rows.{Row}
use Rattle.rows.specs.Tree.{Node, leaf, inner, box_of, leaf_order}
use Rattle.walk_steps.specs.Boxes.{query_of, meets}
use Rattle.walk_steps.specs.declared.boxes.Query.{Query}

-- Rule W2: whether a record with this box, in units of the scale, meets the quantised query.
abbrev pub hit_by : Query → Scale → BoxWords → Bool
hit_by q s b = meets q (quantise_of b.min s.cen s.inverse) (quantise_of b.max s.cen s.inverse)

-- the same for a query as floats
abbrev pub hit_in : Aabb → Scale → BoxWords → Bool
hit_in query s b = hit_by (query_of query s.cen s.inverse) s b

-- Rule P1 (01, Walk): the positions handed out from a node on, where `hit` tells which boxes' records meet the query.
-- None where the node misses; a leaf's by its record's id and count; an inner node's are its children's.
-- The tree's first item stands at lo of the leaf order.
abbrev pub visit : (BoxWords → Bool) → ℕ → List ℕ → ℕ → Node → List ℕ
visit hit th order lo (leaf b ps) = cond (hit b) (up_from (id_of th order (record { box = b; head = lo; count = length ps })) (length ps)) []
visit hit th order lo (inner b l r) = cond (hit b) (visit hit th order lo l ++ visit hit th order (lo + length (leaf_order l)) r) []

-- Rule P1: how many node records are read: below a node that misses, none.
abbrev pub visit_reads : (BoxWords → Bool) → Node → ℕ
visit_reads hit (leaf b ps) = 1
visit_reads hit (inner b l r) = 1 + cond (hit b) (visit_reads hit l + visit_reads hit r) 0

-- Rule P2 (01, Walk: take trees in order): over the parts of a tree, at whatever limit they were cut (rule R14).
-- Each has a tree record, and hands out what its root does. The first item of the first part stands at lo.
abbrev pub visit_parts : (BoxWords → Bool) → ℕ → List ℕ → ℕ → List Subtree → List ℕ
visit_parts hit th order lo [] = []
visit_parts hit th order lo (p ∷ ps) =
    visit hit th order lo p.root ++ visit_parts hit th order (lo + length (leaf_order p.root)) ps

-- the records of one range: the tree's, and its nodes' where it meets
abbrev pub range_reads : (BoxWords → Bool) → Node → ℕ
range_reads hit t = 1 + cond (hit (box_of t)) (visit_reads hit t) 0

-- Rule P2: how many records are read, of trees and of nodes.
abbrev pub part_reads : (BoxWords → Bool) → List Subtree → ℕ
part_reads hit [] = 0
part_reads hit (p ∷ ps) = range_reads hit p.root + part_reads hit ps

-- Every node that has item p below it is hit.
abbrev pub Hits : (BoxWords → Bool) → ℕ → Node → Type 0
Hits hit p (leaf b ps) = 0 < occurrences p ps → hit b ≡ true
Hits hit p (inner b l r) = (0 < occurrences p (leaf_order l ++ leaf_order r) → hit b ≡ true) × Hits hit p l × Hits hit p r

-- A position of a leaf whose record is hit.
pub record FromHit (hit : BoxWords → Bool) (th : ℕ) (order : List ℕ) (rs : List Row) (i : ℕ) : Type 0 where
  pub row : Row
  pub within : Memᴰ row rs
  pub meets : hit row.box ≡ true
  pub low : id_of th order row ≤ i
  pub high : i < id_of th order row + row.count
