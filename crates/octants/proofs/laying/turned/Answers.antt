-- `turned` meets its contract: by the two tests.
use borrow.Author.Tests.{eq-eqb, ne_eqb}
use native.Mathlib.Omega.{arith}
use Rattle.octants.proofs.laying.turned.Goals as goal

pub returns-then-key-eq0 : goal.returns-then-key-eq0
returns-then-key-eq0 c = rw (c.if-falls.false, eq-eqb c.args.key 0 c.if-key-eq0.true)

pub returns : goal.returns
returns c = rw (c.if-falls.false, ne_eqb c.args.key 0 c.if-key-eq0.false) (omega arith)
