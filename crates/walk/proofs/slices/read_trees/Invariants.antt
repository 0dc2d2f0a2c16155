-- `slices::read_trees` meets its contract. The loop's invariant: the walk from the first state leads through the present one, which stands outside
-- a range. The measure is how many records can be left.
use Rattle.std.specs.Prelude.{◌≡◌, false}
use Rattle.walk_steps.specs.Step.{lent_of}
use Rattle.walk.specs.Walks.{left}
use Rattle.walk_steps.specs.Steps.Lanes.{plain_of}
use Rattle.walk.specs.Steps.Passing.{Came}
use Rattle.walk_steps.specs.Steps.Contracts.{inside_range}
use Rattle.walk.proofs.slices.read_trees.Given as goal

abbrev pub invariant-loop-query : goal.invariant-loop-query
invariant-loop-query l = Came (lent_of (plain_of l.query) l.sizes l.node_bytes l.tree_bytes) l.initial.s l.initial.out l.out l.s × (inside_range l.s ≡ false)

abbrev pub decreases-loop-query : goal.decreases-loop-query
decreases-loop-query l = left (lent_of (plain_of l.query) l.sizes l.node_bytes l.tree_bytes) l.s
