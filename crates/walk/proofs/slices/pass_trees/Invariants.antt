-- `slices::pass_trees` meets its contract. The loop's invariant: all trees before t are passed over. The measure is how many are left.
use Rattle.std.specs.Prelude.{◌-◌}
use Rattle.walk_steps.specs.Steps.Lanes.{plain_of}
use Rattle.walk.specs.Steps.Passing.{PassedUpTo}
use Rattle.walk.proofs.slices.pass_trees.Given as goal

abbrev pub invariant-loop-t : goal.invariant-loop-t
invariant-loop-t l = PassedUpTo (plain_of l.query) l.nodes l.tree_bytes l.from l.upto l.t

abbrev pub decreases-loop-t : goal.decreases-loop-t
decreases-loop-t l = l.upto - l.t
