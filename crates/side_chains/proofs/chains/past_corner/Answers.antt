-- `past_corner`, by its cases.
use Rattle.side_chains.specs.Steps.Chains.{past_of}
use borrow.Author.Tests.{eq-eqb, ne_eqb, lt-ltb, le-ltb}
use Rattle.side_chains.proofs.chains.past_corner.Goals as goal

pub returns-then-corner-eq-NONE : goal.returns-then-corner-eq-NONE
unfolding past_of
returns-then-corner-eq-NONE c = rw (eq-eqb _ _ c.if-corner-eq-NONE.true)

pub returns-then-corner-past : goal.returns-then-corner-past
unfolding past_of
returns-then-corner-past c = rw (ne_eqb _ _ c.if-corner-eq-NONE.false, lt-ltb _ _ c.if-corner-past.true)

pub returns-else-corner-past : goal.returns-else-corner-past
unfolding past_of
returns-else-corner-past c = rw (ne_eqb _ _ c.if-corner-eq-NONE.false, le-ltb _ _ c.if-corner-past.false)
