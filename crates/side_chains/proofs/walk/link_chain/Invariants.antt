-- `link_chain`, by the invariant `Walking`.
use Rattle.side_chains.proofs.walk.Walking.{Walking, to_go}
use Rattle.side_chains.proofs.walk.link_chain.Given as goal

abbrev pub invariant-loop-e : goal.invariant-loop-e
invariant-loop-e l = Walking l.nexts l.head l.base l.initial.firsts l.initial.links l.firsts l.links l.e

abbrev pub decreases-loop-e : goal.decreases-loop-e
decreases-loop-e l = to_go l.e
