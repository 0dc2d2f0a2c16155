-- One reading of a record: what state it leads to, and which positions it hands out. Definitions only.
use Rattle.std.specs.Prelude.{ℕ, ◌+◌, ◌-◌, ◌*◌, min, max, Bool, cond, is_ok, Result, Ok, Err, ◌&&◌, ◌||◌, List, [], ltb, eqb}
use Rattle.base.specs.Lists.{up_from}
use Rattle.records.specs.Records.{node_at, tree_at}
use Rattle.records.specs.declared.BvhNode.{BvhNode}
use Rattle.records.specs.declared.BvhTree.{BvhTree}
use Rattle.walk_steps.specs.Boxes.{meets}
use Rattle.walk_steps.specs.Refusals.{whole, bad_range, bad_node}
use Rattle.walk_steps.specs.declared.boxes.Query.{Query}
use Rattle.walk_steps.specs.declared.refusals.WalkRefusal.{WalkRefusal}
use Rattle.walk_steps.specs.declared.refusals.WalkRefusal.TheVariants.{TreeRange, NodeRecord, TooManyHandedOut}
use Rattle.walk_steps.specs.declared.state.Sizes.{Sizes}
use Rattle.walk_steps.specs.declared.state.WalkState.{WalkState}

-- What a walk goes over: the quantised query, the counts, and the bytes of the records.
pub record Lent : Type 0 where
  pub query : Query
  pub sizes : Sizes
  pub nodes : List ℕ
  pub trees : List ℕ

abbrev pub lent_of : Query → Sizes → List ℕ → List ℕ → Lent
lent_of q z nodes trees = record { query = q; sizes = z; nodes = nodes; trees = trees }

-- A state, and the positions that were handed out on the way to it.
pub record Turn : Type 0 where
  pub state : WalkState
  pub given : List ℕ

-- Before the first tree record: no range, nothing read, nothing handed out.
abbrev pub started : WalkState
started = record { tree = 0; at = 0; last = 0; reads = 0; handed = 0; status = Ok tt }

-- nothing is handed out
abbrev pub quiet : WalkState → Turn
quiet s = record { state = s; given = [] }

-- 01: the refused record is one of those read
abbrev pub refused : WalkRefusal → WalkState → WalkState
refused r s =
    record { tree = s.tree; at = s.at; last = s.last; reads = s.reads + 1; handed = s.handed; status = Err r }

-- 01: if the tree meets, at = first
abbrev pub entering : BvhTree → WalkState → WalkState
entering t s =
    record {
      tree = s.tree + 1;
      at = whole t.node_index1;
      last = whole t.node_index2;
      reads = s.reads + 1;
      handed = s.handed;
      status = Ok tt;
    }

-- a tree that misses has no node to read
abbrev pub passing : WalkState → WalkState
passing s =
    record { tree = s.tree + 1; at = s.at; last = s.last; reads = s.reads + 1; handed = s.handed; status = Ok tt }

-- Rule W3 (01, Walk: take trees in order, reading each as one record), of the tree record t, with refusal 9 (rule W4).
unfoldable pub at_tree : Query → ℕ → BvhTree → WalkState → WalkState
at_tree q nodes t s =
    cond (bad_range nodes t) (refused TreeRange s)
    (cond (meets q t.min t.max) (entering t s) (passing s))

-- Rule W5 (01: next is at+1, but max(id,1) further on for a count-0 node that misses).
abbrev pub stride_of : BvhNode → ℕ
stride_of n = cond (eqb (whole n.item_count) 0) (max (whole n.item_id) 1) 1

abbrev pub onward : ℕ → WalkState → WalkState
onward by s =
    record { tree = s.tree; at = s.at + by; last = s.last; reads = s.reads + 1; handed = s.handed; status = Ok tt }

-- how many positions of a leaf are handed out: all, or as many as the item count leaves
abbrev pub handed_of : ℕ → BvhNode → WalkState → ℕ
handed_of items n s = min (whole n.item_count) (items - s.handed)

-- 11 at the first that would pass the item count: what is behind a leaf of `count` positions, of which `room` are left
abbrev pub leaf_status : ℕ → ℕ → Result (Unit {0}) WalkRefusal
leaf_status room count = cond (ltb room count) (Err TooManyHandedOut) (Ok tt)

-- Rule W7 (01: a meeting leaf hands out its positions one by one, 11 at the first that would pass the item count). A count-0 node has none.
unfoldable pub handing : ℕ → BvhNode → WalkState → Turn
handing items n s =
    let m = handed_of items n s in
    record {
      state =
          record {
            tree = s.tree;
            at = s.at + 1;
            last = s.last;
            reads = s.reads + 1;
            handed = s.handed + m;
            status = leaf_status (items - s.handed) (whole n.item_count);
          };
      given = up_from (whole n.item_id) m;
    }

-- Rule W5 (01: while at < last read that node), of the node record n, with refusal 10 (rule W6).
unfoldable pub at_node : Query → ℕ → BvhNode → WalkState → Turn
at_node q items n s =
    cond (bad_node s.at s.last items n) (quiet (refused NodeRecord s))
    (cond (meets q n.min n.max) (handing items n s) (quiet (onward (stride_of n) s)))

-- Whether a record is left to read.
abbrev pub more : ℕ → WalkState → Bool
more trees s = is_ok s.status && (ltb s.at s.last || ltb s.tree trees)

-- Rules W3 and W5: one record is read, a node of the range where one is left, else the next tree.
unfoldable pub step_of : Lent → WalkState → Turn
step_of l s =
    cond (ltb s.at s.last)
    (at_node l.query l.sizes.items (node_at l.nodes (16 * s.at)) s)
    (quiet (at_tree l.query l.sizes.nodes (tree_at l.trees (16 * s.tree)) s))
