-- A walk taken in runs (rules W3, W5): trees passed over, then the nodes of one range. Definitions only.
use Rattle.std.specs.Prelude.{◌≡◌, ℕ, ◌+◌, ◌*◌, ◌<◌, ◌≤◌, Bool, true, false, cond, not, List, length}
use Rattle.std.proofs.lemmas.List.Edits.{sets}
use Rattle.records.specs.Records.{tree_at}
use Rattle.records.specs.declared.BvhTree.{BvhTree}
use Rattle.walk_steps.specs.Boxes.{meets}
use Rattle.walk_steps.specs.Refusals.{bad_range}
use Rattle.walk_steps.specs.Step.{Lent}
use Rattle.walk.specs.Walks.{joined, left, walk_from}
use Rattle.walk_steps.specs.Steps.Contracts.{Steppable}
use Rattle.walk_steps.specs.declared.boxes.Query.{Query}
use Rattle.walk_steps.specs.declared.state.WalkState.{WalkState}

-- Whether a tree is passed over: it misses, and its range is not refused.
unfoldable pub passes_over : Query → ℕ → BvhTree → Bool
passes_over q nodes t = cond (meets q t.min t.max) false (not (bad_range nodes t))

-- The trees from `from` on are passed over up to r, which is at most `upto`. Whether r is too, the reading of r decides.
pub record PassedUpTo (q : Query) (nodes : ℕ) (trees : List ℕ) (from upto r : ℕ) : Type 0 where
  pub onward : from ≤ r
  pub in_bounds : r ≤ upto
  pub passed : (k : ℕ) → from ≤ k → k < r → passes_over q nodes (tree_at trees (16 * k)) ≡ true

-- What a run of readings asks: a step's needs, places for all items, and that its reads can be counted to the end.
pub record Ready (l : Lent) (out : List ℕ) (s : WalkState) : Type 0 where
  pub fits : Steppable l.sizes l.nodes l.trees s
  pub places : l.sizes.items ≤ length out
  pub allowed : s.reads + left l s < 4294967296

-- The walk from one state leads through another: the positions handed out between them are stored, and the rest is the walk from there.
pub record Came (l : Lent) (start : WalkState) (before out : List ℕ) (s : WalkState) : Type 0 where
  pub ready : Ready l out s
  pub given : List ℕ
  pub whole_is : walk_from l start ≡ joined (record { state = s; given = given }) (walk_from l s)
  pub stored : out ≡ sets before start.handed given
  pub counted : s.handed ≡ start.handed + length given
  pub falls : left l s ≤ left l start
