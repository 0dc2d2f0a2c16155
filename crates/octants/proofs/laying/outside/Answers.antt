-- `outside` meets its contract: by the two tests.
use borrow.Author.Tests.{eq-eqb, ne_eqb}
use Rattle.octants.proofs.laying.outside.Goals as goal

pub returns-then-t-eq0 : goal.returns-then-t-eq0
returns-then-t-eq0 c = rw (eq-eqb c.args.t 0 c.if-t-eq0.true)

pub returns-then-t-end : goal.returns-then-t-end
returns-then-t-end c =
    let a = c.args in
    rw (ne_eqb a.t 0 c.if-t-eq0.false, eq-eqb a.t a.end c.if-t-end.true)

pub returns-else-t-end : goal.returns-else-t-end
returns-else-t-end c =
    let a = c.args in
    rw (ne_eqb a.t 0 c.if-t-eq0.false, ne_eqb a.t a.end c.if-t-end.false)
