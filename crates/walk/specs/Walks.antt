-- A whole walk, and what it answers. Definitions only.
use Rattle.std.specs.Prelude.{◌≡◌, ℕ, zero, suc, ◌+◌, ◌-◌, ◌*◌, Bool, true, false, cond, ◌||◌, List, [], ◌++◌, length, nat_lt, is_ok, Result, Ok, Err}
use Rattle.base.specs.Lists.{over}
use Rattle.math.specs.declared.aabb.Aabb.{Aabb}
use Rattle.math.specs.declared.vec3.Vec3.{Vec3}
use Rattle.records.specs.Records.{tree_at}
use Rattle.walk_steps.specs.Boxes.{query_of}
use Rattle.walk_steps.specs.Refusals.{whole, bad_range}
use Rattle.walk_steps.specs.Step.{Lent, lent_of, Turn, quiet, started, more, step_of}
use Rattle.walk.specs.declared.slices.Counts.{Counts}
use Rattle.walk.specs.declared.slices.Refused.{Refused}
use Rattle.walk_steps.specs.declared.refusals.WalkRefusal.{WalkRefusal}
use Rattle.walk_steps.specs.declared.refusals.WalkRefusal.TheVariants.{TooMany, BufferTooShort, TreeRange, NodeRecord, TooManyHandedOut}
use Rattle.walk_steps.specs.declared.state.Sizes.{Sizes}
use Rattle.walk_steps.specs.declared.state.WalkState.{WalkState}

-- one turn, and the next
abbrev pub joined : Turn → Turn → Turn
joined a b = record { state = b.state; given = a.given ++ b.given }

-- Reading on from a state while a record is left, at most k times.
unfoldable pub read_on : ℕ → Lent → WalkState → Turn
read_on zero l s = quiet s
read_on (suc k) l s =
    elim (more l.sizes.trees s) [
      | true ↦ joined (step_of l s) (read_on k l (step_of l s).state)
      | false ↦ quiet s
    ]

-- 01: a range holds the nodes first to last−1. How many those of tree k are; a range that is refused has none.
unfoldable pub range_nodes : Lent → ℕ → ℕ
range_nodes l k =
    let t = tree_at l.trees (16 * k) in
    cond (bad_range l.sizes.nodes t) 0 (whole t.node_index2 - whole t.node_index1)

-- What n trees from tree k on can cost: for each its own record, and one for each node of its range.
abbrev pub allowance : Lent → ℕ → ℕ → ℕ
allowance l k zero = 0
allowance l k (suc n) = 1 + range_nodes l k + allowance l (k + 1) n

-- How many records can be left to read: the rest of the range, and the trees to come.
abbrev pub left : Lent → WalkState → ℕ
left l s = cond (is_ok s.status) (s.last - s.at + allowance l s.tree (l.sizes.trees - s.tree)) 0

-- Rule W8: on from a state until no record is left. `left` readings are enough (WalkLaws, walk-ends).
unfoldable pub walk_from : Lent → WalkState → Turn
walk_from l s = read_on (left l s) l s

-- 01's number of each refusal.
abbrev pub refusal_number : WalkRefusal → ℕ
refusal_number TooMany = 1
refusal_number BufferTooShort = 2
refusal_number TreeRange = 9
refusal_number NodeRecord = 10
refusal_number TooManyHandedOut = 11

-- the number that a state ends with, 0 where nothing was refused
abbrev pub status_number : Result (Unit {0}) WalkRefusal → ℕ
status_number (Ok u) = 0
status_number (Err r) = refusal_number r

-- What a walk answers: the counts, or why it is refused and the counts so far.
abbrev pub Walk : Type 0
Walk = Result Counts Refused

-- 01's number of each answer, 0 where it is not refused
abbrev pub number_of : Walk → ℕ
number_of (Ok c) = 0
number_of (Err e) = refusal_number e.refusal

-- the counts that an answer carries; before reading they are 0
abbrev pub counts_of : Walk → Counts
counts_of (Ok c) = c
counts_of (Err e) = e.counts

-- What a walk comes to: 01's number, the counts, and the positions handed out.
pub record Outcome : Type 0 where
  pub number : ℕ
  pub counts : Counts
  pub given : List ℕ

-- a refusal before reading
abbrev pub unread : WalkRefusal → Outcome
unread r = record { number = refusal_number r; counts = record { reads = 0; handed = 0 }; given = [] }

-- the end of the reading
abbrev pub ended : Turn → Outcome
ended t =
    record {
      number = status_number t.state.status;
      counts = record { reads = t.state.reads; handed = t.state.handed };
      given = t.given;
    }

-- 01, Walk, 1: over 65,535 nodes, trees or items.
abbrev pub too_many : Sizes → Bool
too_many z = nat_lt 65535 z.nodes || (nat_lt 65535 z.trees || nat_lt 65535 z.items)

-- 01, Walk, 2: node or tree bytes under 16 times their count, or output shorter than the item count; by the buffers' lengths.
abbrev pub too_short : Sizes → ℕ → ℕ → ℕ → Bool
too_short z nodes trees out = nat_lt nodes (16 * z.nodes) || (nat_lt trees (16 * z.trees) || nat_lt out z.items)

-- Rule W9 (01, What each operation turns down, Walk): 1, then 2, then as records are read. `room` is the output's length.
unfoldable pub walk_of : Aabb → Vec3 → Vec3 → Sizes → List ℕ → List ℕ → ℕ → Outcome
walk_of box cen inverse z nodes trees room =
    cond (too_many z) (unread TooMany)
    (cond (too_short z (length nodes) (length trees) room) (unread BufferTooShort)
    (ended (walk_from (lent_of (query_of box cen inverse) z nodes trees) started)))

-- Rule W9 (01: the output keeps what was handed out before, the rest is unchanged): what an answer r and the output at exit promise.
pub record Promise (o : Outcome) (out out' : List ℕ) (r : Walk) : Type 0 where
  pub number_is : number_of r ≡ o.number
  pub counts_are : counts_of r ≡ o.counts
  pub output_is : out' ≡ over o.given out
